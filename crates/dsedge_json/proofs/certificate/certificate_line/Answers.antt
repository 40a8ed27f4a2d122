use Rattle.std.proofs.Common.{◌++◌, [], ◌∷◌, ap, ◌∙◌}
use Rattle.json.specs.Tree.{json_tokens}
use Rattle.serde_json.specs.Written.{outline}
use Rattle.json_lines.proofs.WholeLaws.{line_written}
use Rattle.dsedge_json.specs.Certificates.{certificate_data}
use Rattle.dsedge_json.proofs.CertificateLaws.{certificate_says, certificate_shallow, certificate_whole}
use Rattle.dsedge_json.proofs.certificate.certificate_line.Goals as goal

pub returns-clause-object : goal.returns-clause-object
returns-clause-object c =
    let contracts = c.args.contracts.now in
    let rows = c.args.certificate.now in
    let told = c.in_ok-push_certificate.ensures in
    line_written (certificate_data contracts rows) c.push_certificate.new.out c.push.new.self.items (certificate_whole contracts rows) (certificate_shallow contracts rows)
    (told.before ∙ c.new-out.ensures.before ∙ c.new.ensures.items)
    (told.tokens ∙ ap (λ ts. ts ++ json_tokens (outline (certificate_data contracts rows))) c.new-out.ensures.tokens)
    c.into_inner-text.ensures.reads_back
    (c.in_ok-push.ensures.items ∙ ap (λ items. items ++ 10 ∷ []) c.into_inner-text.ensures.items)

pub returns-clause-says : goal.returns-clause-says
returns-clause-says c = certificate_says c.args.contracts.now c.args.certificate.now

pub returns-in_err-push_certificate-clause-says : goal.returns-in_err-push_certificate-clause-says
returns-in_err-push_certificate-clause-says c = certificate_says c.args.contracts.now c.args.certificate.now

pub returns-in_err-push-clause-says : goal.returns-in_err-push-clause-says
returns-in_err-push-clause-says c = certificate_says c.args.contracts.now c.args.certificate.now

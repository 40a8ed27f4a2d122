use Rattle.std.proofs.Common.{ap, ◌∙◌}
use Rattle.json.specs.Token as token
use Rattle.json.specs.Tree.{json_tokens}
use Rattle.serde_json.specs.Written.{outline}
use Rattle.dsedge_json.specs.Certificates.{IsToldBehind, are_short, certificate_data, version_of}
use Rattle.dsedge_json.proofs.CertificateLaws.{certificate_told, on_last, told-one}
use Rattle.dsedge_json.proofs.certificate.push_certificate.Goals as goal

pub returns : goal.returns
returns c =
    let contracts = c.args.contracts.now in
    let rows = c.args.certificate.now in
    let begun = c.in_ok-begin_object.ensures in
    let named = c.in_ok-key.ensures in
    let opened = c.in_ok-begin_array.ensures in
    let closed = c.in_ok-end_array.ensures in
    on_last c.end_object.result token.end_object c.push_figure.new.out c.end_object.new.self
    (IsToldBehind (json_tokens (outline (certificate_data contracts rows))) c.args.out.now c.end_object.new.self) c.end_object.ensures
    (certificate_told contracts rows c.bounds.result.now c.version.result
    c.args.out.now c.begin_object.new.self c.push_string.new.out c.key.new.self c.begin_array.new.self c.push_rows.new.out c.end_array.new.self c.push_figure.new.out c.end_object.new.self
    c.bounds.ensures (c.version.ensures ∙ ap (λ bounds. version_of (are_short bounds)) c.bounds-2.ensures)
    (told-one token.begin_object _ _ begun.ok begun.room.0) c.in_ok-push_string.ensures
    (told-one (token.key _) _ _ named.ok named.room.0) (told-one token.begin_array _ _ opened.ok opened.room.0)
    c.in_ok-push_rows.ensures (told-one token.end_array _ _ closed.ok closed.room.0) c.in_ok-push_figure.ensures)

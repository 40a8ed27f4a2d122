use Rattle.std.proofs.Common.{[], Some, sym, ap, ◌∙◌}
use Rattle.capture_reader.specs.Formats.{bytes_before}
use Rattle.ds_checker.specs.Acceptance.{Table}
use Rattle.ds_conditioner.specs.Conditionings.{IsPortOf}
use Rattle.ds_conditioner.specs.Sendings.{see}
use Rattle.ds_marking.proofs.WritingLaws.{headed_out}
use Rattle.ds_marking.proofs.marking.make_passage.Goals as goal

pub returns-clause-begun : goal.returns-clause-begun
returns-clause-begun c = λ bytes more held at headed.
    let p = c.in_ok-port.port in
    let table = c.in_ok-port.ensures.accepted in
    let head = c.in_ok-port.ensures.opening in
    let is : IsPortOf p c.args.name = λ look.
    c.in_ok-port.ensures.sees look ∙ ap (λ (u : Table). see u c.args.name look) (sym table) in
    record {
      accepted = table;
      red_rule = c.in_ok-port.ensures.red;
      port = is;
      passing = record {
        frames = [];
        text = [];
        underway = at;
        headed = headed ∙ ap Some (sym head);
        conditioned = c.in_ok-conditioner.ensures.begun p table (c.args.name, is);
        written = headed_out (bytes_before p.opening) _ held (c.in_ok-out.ensures.items_if_clones_equal (λ x y is. is) ∙ c.bytes.ensures ∙ ap bytes_before (sym head));
      };
    }

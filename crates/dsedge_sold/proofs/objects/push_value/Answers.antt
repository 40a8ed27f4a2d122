use Rattle.std.proofs.Common.{◌++◌, ap, ◌∙◌}
use Rattle.dsedge_sold.proofs.objects.push_value.Goals as goal

pub returns : goal.returns
returns c =
    let told = c.in_ok-line.ensures in record {
      line = c.in_ok-extend_from_slice.ensures.items ∙ ap (λ line. c.args.text.now.items ++ line) (c.as_slice.ensures.value ∙ told.line);
      reads_back = told.reads_back;
    }

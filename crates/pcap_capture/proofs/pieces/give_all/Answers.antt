use Rattle.std.proofs.Common.{length-drop, ◌∙◌, append_assoc, arith, take, drop, ◌++◌, length, ◌≡◌, ◌≤◌}
use Rattle.std.proofs.Math.Seq.{take-add}
use Rattle.std.proofs.lemmas.List.{take_rest}
use Rattle.pcap_capture.proofs.pieces.give_all.Goals as goal

pub loop-given-preserved : goal.loop-given-preserved
loop-given-preserved g c =
    let text = c.args.text.now in
    let given = c.loop-given.given in
    let more = c.in_ok-given.field-0 in
    let held = g.O.Outlet.held in
    record {
      within = let bound : more ≤ length (drop given text) = rw take_rest at c.in_ok-given.ensures.within in omega (arith, length-drop given text);
      told = λ tells. c.give.ensures.told (c.loop-given.invariant.told tells);
      bytes = λ tells.
          let took : held c.give.new.self ≡ held c.loop-given.outlet ++ take more (drop given text) = rw take_rest at (c.in_ok-given.ensures.bytes (c.loop-given.invariant.told tells)) in
          let front = c.loop-given.invariant.bytes tells in
          rw (took, front, take-add given more text) (append_assoc (held c.args.outlet.now) (take given text) (take more (drop given text)));
      failures = c.in_ok-given.ensures.failures ∙ c.loop-given.invariant.failures;
    }

use Rattle.std.proofs.Common.{◌≡◌, ◌+◌, ◌-◌, Some, drop, take, sym, ap, ◌∙◌, arith, length-drop, inl, inr}
use Rattle.std.proofs.lemmas.List.{length-take-le, take_rest}
use Rattle.pcap_capture.specs.Grammar.{number}
use Rattle.pcapng_capture.specs.Options.{value_size}
use Rattle.pcapng_capture.proofs.OptionLaws.{IsWalk, found_behind, found_here, none_left, walked}
use Rattle.pcapng_capture.proofs.options.option.Goals as goal
use Rattle.pcapng_capture.proofs.options.option.Goals.{else-read_u16-code-via-then-read_u16-code+else-read_u16-size, else-read_u16-code-via-else-read_u16-code}

pub returns-in_default : goal.returns-in_default
returns-in_default c =
    let walk : IsWalk c.args.bytes.now c.split_at.result.1.now c.loop-whole.at = record { within = c.loop-whole.invariant.within; left_is = c.split_at.ensures.back } in
    none_left c.args.order c.args.bytes.now c.split_at.result.1.now c.loop-whole.at walk c.args.code c.args.size c.loop-whole.invariant.same
    (sym c.in_default.ensures.value)

pub returns-then-read_u16-size : goal.returns-then-read_u16-size
returns-then-read_u16-size c =
    let left = c.split_at.result.1.now in
    let walk : IsWalk c.args.bytes.now left c.loop-whole.at = record { within = c.loop-whole.invariant.within; left_is = c.split_at.ensures.back } in
    let size : 4 + c.from.result - 4 ≡ c.args.size = omega arith in
    let value : value_size c.args.order left ≡ c.args.size = sym (c.read_u16-then-read_u16-code.ensures ∙ ap (number c.args.order 2) (take_rest left 2)) ∙ c.if-read_u16-size.true in
    let found = found_here c.args.order c.args.bytes.now left c.loop-whole.at walk c.args.code c.args.size c.loop-whole.invariant.same c.in-Some.whole
    (sym c.in-Some.ensures.value) (sym c.read_u16.ensures ∙ c.if-read_u16-code.true) value in
    let room = c.in-Some.ensures.room in
    let whole = c.in-Some.ensures.whole in
    (found ∙ ap (λ n. Some (take n (drop 4 left))) (sym size), length-take-le (4 + c.from.result - 4) (drop 4 left) (omega (arith, length-drop 4 left)) ∙ size)

pub loop-whole-preserved : goal.loop-whole-preserved
loop-whole-preserved c =
    let left = c.split_at.result.1.now in
    let walk : IsWalk c.args.bytes.now left c.loop-whole.at = record { within = c.loop-whole.invariant.within; left_is = c.split_at.ensures.back } in
    record {
      within = walked c.args.order c.args.bytes.now left c.loop-whole.at walk c.in-Some.whole (sym c.in-Some.ensures.value);
      same = found_behind c.args.order c.args.bytes.now left c.loop-whole.at walk c.args.code c.args.size c.loop-whole.invariant.same c.in-Some.whole (sym c.in-Some.ensures.value)
          (elim c.else-read_u16-code.branch [
            | else-read_u16-code-via-then-read_u16-code+else-read_u16-size w ↦ inr (λ is. w.if-read_u16-size.false (w.read_u16-then-read_u16-code.ensures ∙ ap (number c.args.order 2) (take_rest left 2) ∙ is))
            | else-read_u16-code-via-else-read_u16-code w ↦ inl (λ is. w.if-read_u16-code.false (c.read_u16.ensures ∙ is))
          ]);
    }

use Rattle.std.proofs.Common.{◌+◌, length, sym, ap, ◌∙◌, arith}
use Rattle.pcapng_capture.proofs.OptionLaws.{IsWalk, hash_behind, none_hashless, size_behind, walked}
use Rattle.pcapng_capture.proofs.options.size_without_hash.Goals as goal
use Rattle.pcapng_capture.proofs.options.size_without_hash.Goals.{then-read_u16-ne-HASH, else-read_u16-ne-HASH}

pub returns-in_default-clause-value : goal.returns-in_default-clause-value
returns-in_default-clause-value c =
    let left = c.split_at.result.1.now in
    let walk : IsWalk c.args.bytes.now left c.loop-whole.at = record { within = c.loop-whole.invariant.within; left_is = c.split_at.ensures.back } in
    let none = none_hashless c.args.order c.args.bytes.now left c.loop-whole.at walk (sym c.in_default.ensures.value) in
    ap (λ n. c.loop-whole.size + n) (sym (ap length none)) ∙ c.loop-whole.invariant.same

pub loop-whole-preserved : goal.loop-whole-preserved
loop-whole-preserved c =
    let left = c.split_at.result.1.now in
    let at = c.loop-whole.at in
    let whole = c.in-Some.whole in
    let bytes = c.args.bytes.now in
    let walk : IsWalk bytes left at = record { within = c.loop-whole.invariant.within; left_is = c.split_at.ensures.back } in
    let same = c.loop-whole.invariant.same in
    let few = c.loop-whole.invariant.few in
    record {
      within = walked c.args.order bytes left at walk whole (sym c.in-Some.ensures.value);
      few = elim c.if-read_u16-ne-HASH.branch [
        | then-read_u16-ne-HASH w ↦ omega (arith, w.size-is, few)
        | else-read_u16-ne-HASH w ↦ omega (arith, w.size-is, few)
      ];
      same = elim c.if-read_u16-ne-HASH.branch [
        | then-read_u16-ne-HASH w ↦
            let more = size_behind c.args.order bytes left at walk whole (sym c.in-Some.ensures.value) (λ is. w.if-read_u16-ne-HASH.true (c.read_u16.ensures ∙ is)) in
            omega (arith, more, same, w.size-is)
        | else-read_u16-ne-HASH w ↦
            let more = ap length (hash_behind c.args.order bytes left at walk whole (sym c.in-Some.ensures.value) (sym c.read_u16.ensures ∙ w.if-read_u16-ne-HASH.false)) in
            omega (arith, more, same, w.size-is)
      ];
    }

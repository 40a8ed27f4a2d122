use Rattle.std.proofs.Common.{◌≡◌, ◌+◌, ◌++◌, ℕ, List, drop, take, sym, ap, ap₂, ◌∙◌, append_assoc}
use Rattle.pcapng_capture.specs.Options.{hashless}
use Rattle.pcapng_capture.proofs.OptionLaws.{IsWalk, hash_behind, none_hashless, option_behind, walked, put_rest}
use Rattle.pcapng_capture.proofs.options.add_without_hash.Goals as goal
use Rattle.pcapng_capture.proofs.options.add_without_hash.Goals.{then-read_u16-ne-HASH+in_ok-extend_from_slice, else-read_u16-ne-HASH}

pub returns-in_default : goal.returns-in_default
returns-in_default c =
    let left = c.split_at.result.1.now in
    let walk : IsWalk c.args.bytes.now left c.loop-whole.at = record { within = c.loop-whole.invariant.within; left_is = c.split_at.ensures.back } in
    let none : hashless c.args.order (drop c.loop-whole.at c.args.bytes.now) ≡ left = none_hashless c.args.order c.args.bytes.now left c.loop-whole.at walk (sym c.in_default.ensures.value) in
    put_rest c.extend_from_slice.result c.extend_from_slice.new.self.items c.loop-whole.out.items left _ c.extend_from_slice.ensures.items
    (ap (λ rest. c.loop-whole.out.items ++ rest) (sym none) ∙ c.loop-whole.invariant.same)

pub loop-whole-preserved : goal.loop-whole-preserved
loop-whole-preserved c =
    let left = c.split_at.result.1.now in
    let at = c.loop-whole.at in
    let whole = c.in-Some.whole in
    let bytes = c.args.bytes.now in
    let walk : IsWalk bytes left at = record { within = c.loop-whole.invariant.within; left_is = c.split_at.ensures.back } in
    record {
      within = walked c.args.order bytes left at walk whole (sym c.in-Some.ensures.value);
      same = elim c.if-read_u16-ne-HASH.branch [
        | then-read_u16-ne-HASH+in_ok-extend_from_slice w ↦
            let put : c.if-read_u16-ne-HASH.out.items ≡ c.loop-whole.out.items ++ take whole left =
            cc (w.in_ok-extend_from_slice.ensures.items, w.split_at-then-read_u16-ne-HASH.ensures.front) in
            ap (λ out. out ++ hashless c.args.order (drop (at + whole) bytes)) put
            ∙ append_assoc c.loop-whole.out.items (take whole left) (hashless c.args.order (drop (at + whole) bytes))
            ∙ ap (λ rest. c.loop-whole.out.items ++ rest)
            (sym (option_behind c.args.order bytes left at walk whole (sym c.in-Some.ensures.value) (λ is. w.if-read_u16-ne-HASH.true (c.read_u16.ensures ∙ is))))
            ∙ c.loop-whole.invariant.same
        | else-read_u16-ne-HASH w ↦
            let still : c.if-read_u16-ne-HASH.out.items ≡ c.loop-whole.out.items = cc in
            ap₂ (λ (out rest : List ℕ). out ++ rest) still
            (sym (hash_behind c.args.order bytes left at walk whole (sym c.in-Some.ensures.value) (sym c.read_u16.ensures ∙ w.if-read_u16-ne-HASH.false)))
            ∙ c.loop-whole.invariant.same
      ];
    }

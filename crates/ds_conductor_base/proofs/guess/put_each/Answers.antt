use Rattle.std.proofs.Common.{◌≡◌, ◌<◌, is_ok, true, slice_set, ◌++◌, [], ◌∷◌, false, List, arith, ap, length, sym, ◌∙◌, subst, IsPermutation}
use Rattle.std.specs.declared.cmp.Reverse.{Reverse}
use Rattle.std.proofs.lemmas.List.{length-replicate, length-set}
use Rattle.ds_conductor_base.specs.declared.waiting.Waiting.{Waiting}
use Rattle.ds_conductor_base.proofs.GuessLaws.{empty_taken, if_told, nat_eq_true, one_more, taken_of, whole_taken}
use Rattle.ds_conductor_base.proofs.guess.put_each.Goals as goal

pub loop-number-init : goal.loop-number-init
loop-number-init c = record {
  taken = empty_taken c.args.visits.now c.args.out.now.items c.args.taken.now c.requires.none (omega (arith, c.requires.empty));
  long = ap length c.requires.none ∙ length-replicate (length c.args.visits.now) false;
  kept = omega arith;
}

pub loop-number-preserved : goal.loop-number-preserved
loop-number-preserved c =
    let out = c.loop-number.out.items in
    let items : c.push.new.self.items ≡ out ++ c.index-visits-number.result ∷ [] = if_told (is_ok c.push.result) (out ++ c.index-visits-number.result ∷ []) out c.push.new.self.items c.if-is_err.ensures.negation c.push.ensures.items in
    let short : c.from-number.result < length c.args.visits.now = omega arith in
    record {
      taken = subst (λ (us : List (Reverse Waiting)). IsPermutation us (taken_of (slice_set c.loop-number.taken c.from-number.result true) c.args.visits.now)) (sym items)
          (one_more c.loop-number.taken c.args.visits.now out c.from-number.result c.index-visits-number.result (omega (arith, short, c.loop-number.invariant.long)) short c.if-taken-number.false c.index-visits-number.is c.loop-number.invariant.taken);
      long = length-set c.loop-number.taken c.from-number.result _ ∙ c.loop-number.invariant.long;
      kept = omega arith;
    }

pub returns-clause-same : goal.returns-clause-same
returns-clause-same c = λ whole. whole_taken c.loop-number.taken c.args.visits.now c.loop-number.out.items c.loop-number.invariant.taken (omega (arith, nat_eq_true c.len.result (length c.args.visits.now) whole))

use Rattle.std.proofs.Common.{◌+◌, ◌≤◌, drop, length, refl, ap, arith, sym, ◌∙◌, inl, inr}
use Rattle.std.proofs.lemmas.Result.{err_from_is_err_and}
use Rattle.std.proofs.lemmas.List.{length-take-le}
use Rattle.pcapng_capture.specs.Grammar.{size_in, size_of}
use Rattle.pcap_capture.specs.Pieces.{frames_between}
use Rattle.pcapng_capture.proofs.GrammarLaws.{front_own, next_partial, next_short, size_least, size_long, size_own}
use Rattle.pcap_capture.proofs.PieceLaws.{cut_within}
use Rattle.pcapng_capture.proofs.ReadingLaws.{block_stops, pushed, size_stops, starved}
use Rattle.pcap_capture.specs.declared.fault.PcapFault.TheVariants.{BadMagic}
use Rattle.pcapng_capture.proofs.reads.read_blocks.Goals as goal

pub loop-left-init : goal.loop-left-init
loop-left-init c = record {
  at = refl;
  within = (cut_within c.args.text.now 0 c.args.entries.now.items c.args.end.now c.requires).1;
  cut = c.requires;
  same = refl;
}

pub returns-in_err-size-clause-err : goal.returns-in_err-size-clause-err
returns-in_err-size-clause-err c =
    let text = c.args.text.now in
    let left = c.split_at.ensures.back ∙ ap (λ place. drop place text) c.loop-left.invariant.at in
    let p = err_from_is_err_and c.from_residual.result c.from_residual.ensures.1 in
    rw (p.1, p.2) (size_stops text c.loop-left.end c.loop-left.section (frames_between text 0 c.loop-left.entries.items) _ c.loop-left.invariant.same
    c.split_at.result.1.now c.in_err-size.field-0.0 left c.in_err-size.ensures)

pub returns-then-left-size-clause-settled : goal.returns-then-left-size-clause-settled
returns-then-left-size-clause-settled c =
    let text = c.args.text.now in
    let left = c.split_at.ensures.back ∙ ap (λ place. drop place text) c.loop-left.invariant.at in
    let short = c.if-left-size.true in
    next_partial c.loop-left.section (drop c.loop-left.end text) c.in_ok-size.size
    (sym (c.in_ok-size.ensures ∙ ap (size_of c.loop-left.section) left)) (omega (arith, ap length left, short))

pub read_block-requires-clause-least : goal.read_block-requires-clause-least
read_block-requires-clause-least c =
    let left = c.split_at.result.1.now in
    let least = size_least c.loop-left.section left c.in_ok-size.size (sym c.in_ok-size.ensures) in
    let whole = c.if-left-size.false in
    omega (arith, least, whole, ap length c.split_at-in-loop-left.ensures.front, length-take-le c.in_ok-size.size left (omega arith))

pub read_block-requires-clause-sized : goal.read_block-requires-clause-sized
read_block-requires-clause-sized c =
    let left = c.split_at.result.1.now in
    let whole = c.if-left-size.false in
    rw c.split_at-in-loop-left.ensures.front (size_own c.loop-left.section left c.in_ok-size.size (sym c.in_ok-size.ensures) (omega arith))

pub returns-in_err-place-clause-err : goal.returns-in_err-place-clause-err
returns-in_err-place-clause-err c =
    let text = c.args.text.now in
    let left = c.split_at.ensures.back ∙ ap (λ place. drop place text) c.loop-left.invariant.at in
    let whole = c.if-left-size.false in
    let p = err_from_is_err_and c.from_residual-in_err-place.result c.from_residual-in_err-place.ensures.1 in
    rw (p.1, p.2) (elim c.in_err-place.ensures.err [
      | inl bad ↦
          block_stops text c.loop-left.end c.loop-left.section (frames_between text 0 c.loop-left.entries.items) _ c.loop-left.invariant.same
          c.split_at.result.1.now c.split_at-in-loop-left.result.0.now c.in_ok-size.size c.in_err-place.field-0.0 left c.in_ok-size.ensures (omega arith) c.split_at-in-loop-left.ensures.front bad
      | inr memory ↦ starved c.in_err-place.field-0.0 (frames_between text 0 c.loop-left.entries.items) _ _ memory.0 c.loop-left.invariant.same
    ])

pub loop-left-smaller : goal.loop-left-smaller
loop-left-smaller c =
    let least = size_least c.loop-left.section c.split_at.result.1.now c.in_ok-size.size (sym c.in_ok-size.ensures) in
    let whole = c.if-left-size.false in
    let within = c.loop-left.invariant.within in
    omega (arith, least, whole, within, c.split_at.ensures.back_len)

pub loop-left-preserved : goal.loop-left-preserved
loop-left-preserved c =
    let text = c.args.text.now in
    let left = c.split_at.ensures.back ∙ ap (λ place. drop place text) c.loop-left.invariant.at in
    let whole = c.if-left-size.false in
    let at = c.loop-left.invariant.at in
    let inside = c.loop-left.invariant.within in
    let within : c.loop-left.start + c.in_ok-size.size ≤ length text = omega (arith, whole, c.split_at.ensures.back_len, inside) in
    let more = pushed text c.split_at.result.1.now c.split_at-in-loop-left.result.0.now c.loop-left.entries.items c.loop-left.end c.in_ok-size.size c.loop-left.section c.read_block.new.self c.in_ok-place.place _
    c.loop-left.invariant.cut c.loop-left.invariant.same left c.in_ok-size.ensures (omega arith) c.split_at-in-loop-left.ensures.front c.in_ok-place.ensures.ok c.in_ok-place.ensures.placed
    (omega (arith, at, inside))
    (record { end = c.loop-left.start + c.in_ok-size.size; place = c.in_ok-place.place }) (ap (λ place. place + c.in_ok-size.size) at) refl in
    record {
      at = refl;
      within = within;
      cut = rw c.in-Ok.ensures.items more.0;
      same = rw c.in-Ok.ensures.items more.1;
    }

pub returns-then-left-lt12-clause-settled : goal.returns-then-left-lt12-clause-settled
returns-then-left-lt12-clause-settled c =
    let text = c.args.text.now in
    let left = c.split_at.ensures.back ∙ ap (λ place. drop place text) c.loop-left.invariant.at in
    let short = c.if-left-lt12.true in
    next_short c.loop-left.section (drop c.loop-left.end text) (omega (arith, ap length left, short))

pub returns-in_default-clause-err : goal.returns-in_default-clause-err
returns-in_default-clause-err c =
    let text = c.args.text.now in
    let own = c.split_at.result.1.now in
    let left = c.split_at.ensures.back ∙ ap (λ place. drop place text) c.loop-left.invariant.at in
    let long = c.if-left-lt12.false in
    size_stops text c.loop-left.end c.loop-left.section (frames_between text 0 c.loop-left.entries.items) _ c.loop-left.invariant.same own BadMagic left
    (sym (size_long c.loop-left.section own (omega arith) ∙ ap (size_in own) c.in_default.ensures))

pub read_block-requires-clause-known : goal.read_block-requires-clause-known
read_block-requires-clause-known c =
    let left = c.split_at.result.1.now in
    let whole = c.if-left-size.false in
    let least = size_least c.loop-left.section left c.in_ok-size.size (sym c.in_ok-size.ensures) in
    rw c.split_at-in-loop-left.ensures.front (front_own c.loop-left.section left c.in_ok-size.size c.in-Some.front least (omega arith) c.in-Some.ensures)

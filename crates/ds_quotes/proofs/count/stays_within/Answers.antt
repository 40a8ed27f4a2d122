use Rattle.std.proofs.Common.{arith, sym, ap, ◌≡◌, ◌+◌, ◌-◌, ◌*◌, nat_le, ◌∙◌}
use Rattle.std.proofs.Math.Nat.{mul_comm}
use Rattle.std.proofs.lemmas.Bool.{lt-leb}
use Rattle.ds_quotes.proofs.count.stays_within.Goals as goal

pub returns-in-Some-checked_add : goal.returns-in-Some-checked_add
returns-in-Some-checked_add c =
    let step = c.args.two - c.args.one in
    let grown : c.in-Some.grown ≡ c.args.more * step =
    c.in-Some.ensures.1 ∙ ap (λ s. s * c.from.result) c.saturating_sub-step.ensures ∙ ap (λ n. step * n) c.from.ensures ∙ mul_comm step c.args.more in
    ap (λ t. nat_le t c.args.available) (c.in-Some-checked_add.ensures.1 ∙ ap (λ g. c.args.one + g) grown)

pub returns-in-None-checked_add : goal.returns-in-None-checked_add
returns-in-None-checked_add c =
    let step = c.args.two - c.args.one in
    let grown : c.in-Some.grown ≡ c.args.more * step =
    c.in-Some.ensures.1 ∙ ap (λ s. s * c.from.result) c.saturating_sub-step.ensures ∙ ap (λ n. step * n) c.from.ensures ∙ mul_comm step c.args.more in
    sym (lt-leb (c.args.one + c.args.more * step) c.args.available (omega (arith, grown, c.in-None-checked_add.ensures, c.ranges.available.fits)))

pub returns-in-None : goal.returns-in-None
returns-in-None c =
    let step = c.args.two - c.args.one in
    let grown : c.saturating_sub-step.result * c.from.result ≡ c.args.more * step =
    ap (λ s. s * c.from.result) c.saturating_sub-step.ensures ∙ ap (λ n. step * n) c.from.ensures ∙ mul_comm step c.args.more in
    sym (lt-leb (c.args.one + c.args.more * step) c.args.available (omega (arith, grown, c.in-None.ensures, c.ranges.available.fits)))

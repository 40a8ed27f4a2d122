use Rattle.std.proofs.Common.{List, ℕ, subst}
use Rattle.std.specs.Prelude.{◌≡◌, IfOk, string_bytes}
use Rattle.std.specs.Net.Addr.{IsIpv6OfBits}
use Rattle.std.specs.Net.Text.{ipv6_text}
use Rattle.ds_ledger_rows.specs.Cells.{address_text}
use Rattle.ds_ledger_rows.proofs.writing.address_text.Goals as goal

pub returns : goal.returns
unfolding address_text IsIpv6OfBits
returns c =
    subst (λ (segments : List ℕ). IfOk c.to_string.result (λ text. string_bytes text ≡ ipv6_text segments)) c.from_bits.ensures c.to_string.ensures.ok

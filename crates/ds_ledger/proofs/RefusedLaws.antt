-- Why no ledger is had of a database, step by step.
use Rattle.std.proofs.Common.{◌≡◌, ◌⊎◌, true, [], inl, inr, arith}
use Rattle.sqlite.specs.declared.error.Error.{Error}
use Rattle.sqlite.specs.Held.{Held, state}
use Rattle.sqlite.specs.State.{HasCleanDisk, Survives}
use Rattle.sqlite.specs.Store.{Ghosts}
use Rattle.sqlite.proofs.StateLemmas.{survives_then}
use Rattle.ds_ledger_base.specs.declared.fault.LedgerFault.{LedgerFault}
use Rattle.ds_ledger_table.specs.Form.{no_schema}
use Rattle.ds_ledger_table.specs.Rows.{IsMade, TellsForm, rows_in}
use Rattle.ds_ledger.specs.Faults.{fault_of_write}
use Rattle.ds_ledger.specs.Opened.{IsFormless, IsUnopened, IsUnread}

module _ {S : Type 0} (g : Ghosts S) (first : Held S) (fault : LedgerFault) where
  pub unmade : (last : Held S) (e : Error) → Survives (state g first) (state g last) (λ db. rows_in db ≡ []) → (state g first).now.schema ≡ no_schema → fault ≡ fault_of_write e
      → IsUnopened g first fault
  unmade last e survives blank is = (last, survives, λ clean. inl (blank, e, is))

  module _ (made last : Held S) (one : Survives (state g first) (state g made) (λ db. rows_in db ≡ [])) (two : Survives (state g made) (state g last) (λ _. ⊥))
      (settled : HasCleanDisk (state g made) → (made ≡ first) ⊎ IsMade (state g first) (state g made)) where
    whole : Survives (state g first) (state g last) (λ db. rows_in db ≡ [])
    whole = survives_then (state g first) (state g made) (state g last) _ _ _ (λ _ db none. none) (λ _ db none. absurd none) one two

    early : HasCleanDisk (state g last) → HasCleanDisk (state g made)
    early clean = omega (arith, two.clean, clean)

    pub formless : (HasCleanDisk (state g last) → IsFormless (state g made) (state g last) fault) → IsUnopened g first fault
    formless why = (last, whole, λ clean. inr (made, settled (early clean), inl (why clean)))

    pub unread : (HasCleanDisk (state g last) → TellsForm (state g made).now true) → IsUnread (state g last) fault → IsUnopened g first fault
    unread told why = (last, whole, λ clean. inr (made, settled (early clean), inr (told clean, why)))

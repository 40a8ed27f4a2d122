-- The row of a command fits the table.
use Rattle.std.proofs.Common.{◌≡◌, ℕ, suc, zero, List, [], ◌∷◌, ◌++◌, take, drop, codes, true, None, Some, Option, refl}
use Rattle.std.proofs.lemmas.Bool.{and_from, and_parts}
use Rattle.sqlite_value.specs.declared.value.Value.TheVariants.{Null, Text}
use Rattle.sqlite_value.specs.Order.{Row}
use Rattle.sqlite_schema.specs.declared.schema.Column.{Column}
use Rattle.flow_classifier.specs.declared.prefix.Prefix.{Prefix}
use Rattle.flow_classifier.specs.declared.prefix.Prefix.TheVariants.{V4, V6}
use Rattle.flow_classifier.specs.declared.rule.Rule.{Rule}
use Rattle.flow_classifier.specs.Parts.{PortRangeValue}
use Rattle.meter_book_base.specs.declared.any_meter.Parameters.TheVariants.{SrTcm, TrTcm, Rfc4115}
use Rattle.ds_domain_base.specs.declared.contract.Contract.{Contract}
use Rattle.ds_domain_base.specs.declared.terms.Profile.{Profile}
use Rattle.ds_domain_base.specs.declared.terms.Terms.{Terms}
use Rattle.ds_domain_base.specs.declared.terms.Terms.TheVariants.{Trusted, Policed}
use Rattle.ds_broker.specs.declared.command.Command.{Command}
use Rattle.ds_broker.specs.declared.command.Command.TheVariants.{Reserve, Release, Retire}
use Rattle.ds_ledger_rows.specs.Cells.{cells_of, head_cells, path_text, number_cell, choice_cell, terms_cells, prefix_cells, range_cells, rule_cells, contract_cells}
use Rattle.ds_ledger_table.specs.Form.{command_columns}
use Rattle.ds_ledger_table.specs.Rows.{are_cells, IsRow}

-- cells for the first columns, and cells for the others
joined : (n : ℕ) (columns : List Column) (first others : Row) → are_cells (take n columns) first ≡ true → are_cells (drop n columns) others ≡ true → are_cells columns (first ++ others) ≡ true
joined zero columns [] others a b = b
joined zero columns (v ∷ vs) others a b = absurd cc
joined (suc n) [] [] others a b = b
joined (suc n) [] (v ∷ vs) others a b = absurd cc
joined (suc n) (c ∷ cs) [] others a b = absurd cc
joined (suc n) (c ∷ cs) (v ∷ vs) others a b = let both = and_parts _ _ a in and_from _ _ both.0 (joined n cs vs others both.1 b)

-- the columns of the terms, and of what stands behind
abbrev terms_columns : List Column
terms_columns = take 8 (drop 8 command_columns)

terms_fit : (t : Terms) → are_cells terms_columns (terms_cells t) ≡ true
terms_fit (Trusted committed None) = refl
terms_fit (Trusted committed (Some p)) = excess p.excess
  where
    excess : (e : Option Profile) → are_cells terms_columns (terms_cells (Trusted committed (Some (record { profile = p.profile; excess = e })))) ≡ true
    excess None = refl
    excess (Some x) = refl
terms_fit (Policed (SrTcm p) mode) = refl
terms_fit (Policed (TrTcm p) mode) = refl
terms_fit (Policed (Rfc4115 p) mode) = refl

prefix_fits : (p : Option Prefix) → are_cells (take 2 (drop 18 command_columns)) (prefix_cells p) ≡ true
prefix_fits None = refl
prefix_fits (Some (V4 p)) = refl
prefix_fits (Some (V6 p)) = refl

target_fits : (p : Option Prefix) → are_cells (take 2 (drop 20 command_columns)) (prefix_cells p) ≡ true
target_fits None = refl
target_fits (Some (V4 p)) = refl
target_fits (Some (V6 p)) = refl

sources_fit : (r : Option PortRangeValue) → are_cells (take 2 (drop 23 command_columns)) (range_cells r) ≡ true
sources_fit None = refl
sources_fit (Some r) = refl

targets_fit : (r : Option PortRangeValue) → are_cells (take 2 (drop 25 command_columns)) (range_cells r) ≡ true
targets_fit None = refl
targets_fit (Some r) = refl

protocol_fits : (c : Option ℕ) → are_cells (take 1 (drop 22 command_columns)) (choice_cell c ∷ []) ≡ true
protocol_fits None = refl
protocol_fits (Some n) = refl

dscp_fits : (c : Option ℕ) → are_cells (drop 27 command_columns) (choice_cell c ∷ []) ≡ true
dscp_fits None = refl
dscp_fits (Some n) = refl

rule_fits : (r : Rule) → are_cells (drop 18 command_columns) (rule_cells r) ≡ true
rule_fits r =
    let columns = drop 18 command_columns in
    let one = prefix_cells r.source ++ prefix_cells r.target in
    let two = one ++ (choice_cell r.protocol ∷ []) in
    let three = two ++ range_cells r.source_ports in
    let four = three ++ range_cells r.target_ports in
    joined 9 columns four (choice_cell r.dscp ∷ [])
    (joined 7 (take 9 columns) three (range_cells r.target_ports)
    (joined 5 (take 7 columns) two (range_cells r.source_ports)
    (joined 4 (take 5 columns) one (choice_cell r.protocol ∷ [])
    (joined 2 (take 4 columns) (prefix_cells r.source) (prefix_cells r.target) (prefix_fits r.source) (target_fits r.target)) (protocol_fits r.protocol)) (sources_fit r.source_ports)) (targets_fit r.target_ports)) (dscp_fits r.dscp)

until_fits : (since : ℕ) (until : Option ℕ) → are_cells (take 2 (drop 16 command_columns)) (number_cell since ∷ choice_cell until ∷ []) ≡ true
until_fits since None = refl
until_fits since (Some n) = refl

contract_fits : (c : Contract) → are_cells (drop 4 command_columns) (contract_cells c) ≡ true
contract_fits c =
    let columns = drop 4 command_columns in
    let way = Text c.name ∷ Text c.port ∷ Text (path_text c.path) ∷ number_cell c.class ∷ [] in
    let one = way ++ terms_cells c.terms in
    let life = number_cell c.lifetime.since ∷ choice_cell c.lifetime.until ∷ [] in
    let two = one ++ life in
    joined 14 columns two (rule_cells c.rule)
    (joined 12 (take 14 columns) one life (joined 4 (take 12 columns) way (terms_cells c.terms) refl (terms_fit c.terms)) (until_fits c.lifetime.since c.lifetime.until)) (rule_fits c.rule)

pub row_fits : (serial id : ℕ) (c : Command) → IsRow (cells_of serial id c)
row_fits serial id (Reserve c) = (refl, joined 4 command_columns (head_cells serial (codes "reserve") id Null) (contract_cells c) refl (contract_fits c))
row_fits serial id (Release of at) = (refl, refl)
row_fits serial id (Retire of moment) = (refl, refl)

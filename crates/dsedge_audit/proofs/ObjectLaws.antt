-- The object of an audit has no float, nests three deep at most, and makes the lines.
use Rattle.std.proofs.Common.{◌≡◌, ℕ, ◌≤◌, max, suc, false, List, [], ◌∷◌, ◌++◌, codes, decimal, flat_map, map, append_assoc, append-nil, refl, ap, ◌∙◌, arith}
use Rattle.std.specs.Prelude.{slice_index}
use Rattle.std.proofs.lemmas.Bool.Decides.{nat_tests}
use Rattle.serde_json.specs.Data.{Data, depth, items_depth, member, no_members, object, string}
use Rattle.serde_json.specs.Read.{max_depth}
use Rattle.serde_json.specs.View.{items_of}
use Rattle.serde_json.specs.Written.{has_float, items_have_float}
use Rattle.json_lines.specs.JsonLines.{count_data, count_keys, words_before, words_line}
use Rattle.json_lines.proofs.FigureLaws.{count_nests, count_plain, figure_flat, figure_plain, figure_said}
use Rattle.meter_book.specs.Replay.{Journal, accounts_of, journal_rows}
use Rattle.meter_book.specs.declared.accounts.Accounts.{Accounts}
use Rattle.ds_checker.specs.Acceptance.{Table}
use Rattle.dsedge_texts.specs.Wording.{column_text, name_of}
use Rattle.run_audit.specs.declared.verdict.Verdict.{Verdict}
use Rattle.run_audit.specs.declared.verdict.Verdict.TheVariants.{Kept, OutsideContract, SourceOver, DelayOver, Late}
use Rattle.dsedge_audit.specs.AuditObjects.{audit_data, audit_lines_in, site_data, site_line_in, site_of, sites_lines, verdict_data, verdict_keys}
use Rattle.dsedge_audit.specs.Audited.{accounts_line, accounts_line_of, audit_text, share_text, verdict_line}
use Rattle.dsedge_audit.specs.SiteNames.{site_name}

-- ---- a verdict

pub verdict_plain : (t : Table) (v : Verdict) → has_float (verdict_data t v) ≡ false
verdict_plain t Kept = refl
verdict_plain t (OutsideContract packet) = rw (figure_plain packet) refl
verdict_plain t (SourceOver flow column packet) = rw (figure_plain packet) refl
verdict_plain t (DelayOver packet hop) = rw (figure_plain hop, figure_plain packet) refl
verdict_plain t (Late site place late) = rw (figure_plain late, figure_plain place) refl

pub verdict_flat : (t : Table) (v : Verdict) → depth (verdict_data t v) ≡ 1
verdict_flat t Kept = refl
verdict_flat t (OutsideContract packet) = rw (figure_flat packet) refl
verdict_flat t (SourceOver flow column packet) = rw (figure_flat packet) refl
verdict_flat t (DelayOver packet hop) = rw (figure_flat hop, figure_flat packet) refl
verdict_flat t (Late site place late) = rw (figure_flat late, figure_flat place) refl

outside_said : (packet : List ℕ) → codes "outside" ++ (32 ∷ (packet ++ (10 ∷ []))) ≡ codes "outside" ++ (codes " " ++ packet) ++ codes "\n"
outside_said packet = simp append_assoc

source_rest : (contract column packet : List ℕ) → contract ++ (32 ∷ (column ++ (32 ∷ (packet ++ (10 ∷ [])))))
    ≡ contract ++ codes " " ++ column ++ (codes " " ++ packet) ++ codes "\n"
source_rest contract column packet = simp append_assoc

source_said : (contract column packet : List ℕ) → codes "source-over" ++ (32 ∷ (contract ++ (32 ∷ (column ++ (32 ∷ (packet ++ (10 ∷ [])))))))
    ≡ codes "source-over " ++ contract ++ codes " " ++ column ++ (codes " " ++ packet) ++ codes "\n"
source_said contract column packet = ap (λ rest. codes "source-over " ++ rest) (source_rest contract column packet)

delay_said : (packet hop : List ℕ) → codes "delay-over" ++ (32 ∷ (packet ++ (32 ∷ (hop ++ (10 ∷ [])))))
    ≡ codes "delay-over" ++ (codes " " ++ packet) ++ (codes " " ++ hop) ++ codes "\n"
delay_said packet hop = simp append_assoc

late_rest : (site place late : List ℕ) → site ++ (32 ∷ (place ++ (32 ∷ (late ++ (10 ∷ [])))))
    ≡ site ++ (codes " " ++ place) ++ (codes " " ++ late) ++ codes "\n"
late_rest site place late = simp append_assoc

late_said : (site place late : List ℕ) → codes "late" ++ (32 ∷ (site ++ (32 ∷ (place ++ (32 ∷ (late ++ (10 ∷ [])))))))
    ≡ codes "late " ++ site ++ (codes " " ++ place) ++ (codes " " ++ late) ++ codes "\n"
late_said site place late = ap (λ rest. codes "late " ++ rest) (late_rest site place late)

pub verdict_says : (t : Table) (v : Verdict) → words_line verdict_keys (verdict_data t v) ≡ verdict_line t v
verdict_says t Kept = refl
verdict_says t (OutsideContract packet) = rw (figure_said packet) (outside_said (decimal packet))
verdict_says t (SourceOver flow column packet) =
    rw (figure_said packet) (source_said (name_of t.contracts flow) (column_text column) (decimal packet))
verdict_says t (DelayOver packet hop) = rw (figure_said hop, figure_said packet) (delay_said (decimal packet) (decimal hop))
verdict_says t (Late site place late) =
    rw (figure_said late, figure_said place) (late_said (site_name t site) (decimal place) (decimal late))

-- ---- the accounts of a site

abbrev four : Data → Data → Data → Data → Data
four a b c d = object
    (member (codes "green") a (member (codes "red") b (member (codes "site") c (member (codes "yellow") d no_members))))

four_plain : (a b d : Data) (site : List ℕ) → has_float a ≡ false → has_float b ≡ false → has_float d ≡ false → has_float (four a b (string site) d) ≡ false
four_plain a b d site pa pb pd = rw (pa, pb, pd) refl

four_nest : (a b d : Data) (site : List ℕ) → depth a ≡ 1 → depth b ≡ 1 → depth d ≡ 1 → depth (four a b (string site) d) ≡ 2
four_nest a b d site na nb nd = rw (na, nb, nd) refl

site_plain : (name : List ℕ) (a : Accounts) → has_float (site_data name a) ≡ false
site_plain name a = four_plain (count_data (slice_index a.packets 0) (slice_index a.bytes 0)) (count_data (slice_index a.packets 2) (slice_index a.bytes 2)) (count_data (slice_index a.packets 1) (slice_index a.bytes 1)) name (count_plain (slice_index a.packets 0) (slice_index a.bytes 0)) (count_plain (slice_index a.packets 2) (slice_index a.bytes 2))
    (count_plain (slice_index a.packets 1) (slice_index a.bytes 1))

site_nests : (name : List ℕ) (a : Accounts) → depth (site_data name a) ≡ 2
site_nests name a = four_nest (count_data (slice_index a.packets 0) (slice_index a.bytes 0)) (count_data (slice_index a.packets 2) (slice_index a.bytes 2)) (count_data (slice_index a.packets 1) (slice_index a.bytes 1)) name (count_nests (slice_index a.packets 0) (slice_index a.bytes 0)) (count_nests (slice_index a.packets 2) (slice_index a.bytes 2))
    (count_nests (slice_index a.packets 1) (slice_index a.bytes 1))

share_joined : (name packets bytes : List ℕ) → codes " " ++ name ++ (32 ∷ (packets ++ (32 ∷ (bytes ++ []))))
    ≡ codes " " ++ name ++ (codes " " ++ packets) ++ (codes " " ++ bytes)
share_joined name packets bytes = simp (append_assoc, append-nil)

share_said : (name : List ℕ) (packets bytes : ℕ) → codes " " ++ name ++ words_before count_keys (count_data packets bytes) [] ≡ share_text name packets bytes
share_said name packets bytes = rw (figure_said bytes, figure_said packets) (share_joined name (decimal packets) (decimal bytes))

shares_joined : (name a b c d e f : List ℕ) → a ≡ d → b ≡ e → c ≡ f → name ++ a ++ b ++ c ++ codes "\n" ≡ name ++ d ++ e ++ f ++ codes "\n"
shares_joined name a b c d e f first second third = rw (first, second, third) refl

site_says : (name : List ℕ) (a : Accounts) → site_line_in (site_data name a) ≡ accounts_line_of name a
site_says name a = shares_joined name _ _ _ _ _ _ (share_said (codes "green") (slice_index a.packets 0) (slice_index a.bytes 0))
    (share_said (codes "yellow") (slice_index a.packets 1) (slice_index a.bytes 1)) (share_said (codes "red") (slice_index a.packets 2) (slice_index a.bytes 2))

-- ---- all sites

sites_plain : (t : Table) (journals : List Journal) → items_have_float (items_of (map (site_of t) journals)) ≡ false
sites_plain t [] = refl
sites_plain t (j ∷ journals) = rw (site_plain (site_name t j.site) (accounts_of (journal_rows j)), sites_plain t journals) refl

max_below : (a b c : ℕ) → a ≤ c → b ≤ c → max a b ≤ c
max_below a b c ha hb = grind (arith, nat_tests)

sites_nest : (t : Table) (journals : List Journal) → items_depth (items_of (map (site_of t) journals)) ≤ 2
sites_nest t [] = omega arith
sites_nest t (j ∷ journals) =
    rw (site_nests (site_name t j.site) (accounts_of (journal_rows j)))
    (max_below 2 (items_depth (items_of (map (site_of t) journals))) 2 (omega arith) (sites_nest t journals))

sites_say : (t : Table) (journals : List Journal) → sites_lines (items_of (map (site_of t) journals)) ≡ flat_map (accounts_line t) journals
sites_say t [] = refl
sites_say t (j ∷ journals) =
    ap (λ line. line ++ sites_lines (items_of (map (site_of t) journals))) (site_says (site_name t j.site) (accounts_of (journal_rows j)))
    ∙ ap (λ lines. accounts_line t j ++ lines) (sites_say t journals)

-- ---- the whole

pub audit_plain : (t : Table) (v : Verdict) (journals : List Journal) → has_float (audit_data t v journals) ≡ false
audit_plain t v journals = rw (sites_plain t journals, verdict_plain t v) refl

deep_enough : (n v : ℕ) → n ≤ 2 → v ≡ 1 → suc (max 0 (max (suc n) (max v 0))) ≤ max_depth
deep_enough n v h e = grind (arith, nat_tests)

pub audit_shallow : (t : Table) (v : Verdict) (journals : List Journal) → depth (audit_data t v journals) ≤ max_depth
audit_shallow t v journals =
    deep_enough (items_depth (items_of (map (site_of t) journals))) (depth (verdict_data t v)) (sites_nest t journals) (verdict_flat t v)

pub audit_says : (t : Table) (v : Verdict) (journals : List Journal) → audit_lines_in (audit_data t v journals) ≡ audit_text t v journals
audit_says t v journals =
    ap (λ line. line ++ sites_lines (items_of (map (site_of t) journals))) (verdict_says t v)
    ∙ ap (λ lines. verdict_line t v ++ lines) (sites_say t journals)

-- The least bounds meet what bounds must, and no others that do are below them.
use Rattle.std.proofs.Common.{append_assoc, append-nil, drop, get_or, ◌++◌, ◌≡◌, ℕ, suc, ◌+◌, ◌≤◌, ◌<◌, Bool, true, false, ◌&&◌, ◌||◌, not, List, [], ◌∷◌, length, IsTrue, refl, sym, ap, ◌∙◌, arith}
use Rattle.std.specs.List.{AllZip, list_all}
use Rattle.std.proofs.lemmas.Bool.{and_parts}
use Rattle.std.proofs.lemmas.List.{drop_all, drop_more}
use Rattle.std.proofs.lemmas.Bool.Decides.{nat_tests}
use Rattle.moment_core.specs.Volume.{bytes_over}
use Rattle.ds_domain_base.specs.Domains.{Domain}
use Rattle.ds_domain_base.specs.declared.contract.Contract.{Contract}
use Rattle.ds_certificate.specs.Bounds.{AreAtMost, Grows, HasShape, IsAtMost, IsCertificate, Meets, MeetsIn, delayed, entering, fits, least, least_along, least_behind, least_of}
use Rattle.moment_core.specs.declared.column.Column.{Column}
use Rattle.moment_core.specs.declared.column.Column.TheVariants.{Green, All, Excess}
use Rattle.ds_certificate.specs.Columns.{Bound, InEach, bytes_in, envelope_in}
use Rattle.ds_certificate.specs.Sources.{jitters_along, jitters_of, source_of}
use Rattle.ds_certificate.specs.declared.source.Source.{Source}
use Rattle.ds_certificate.proofs.ColumnLaws.{each_of, in_column}

pub length-jitters_along : (d : Domain) (from : List ℕ) (path : List (List ℕ)) → length (jitters_along d from path) ≡ length path
unfolding jitters_along
length-jitters_along d from [] = refl
length-jitters_along d from (to ∷ rest) = ap suc (length-jitters_along d to rest)

pub length-least_behind : (s : Source) (jitters : List ℕ) (before : Bound) → length (least_behind s jitters before) ≡ length jitters
unfolding least_behind
length-least_behind s [] before = refl
length-least_behind s (jitter ∷ jitters) before = ap suc (length-least_behind s jitters (delayed s jitter before))

-- the least bounds in a column
enters : (column : Column) (s : Source) → bytes_in column (entering s) ≡ (envelope_in column s).burst
enters Green s = refl
enters All s = refl
enters Excess s = refl

delays : (column : Column) (s : Source) (jitter : ℕ) (before : Bound)
    → bytes_in column (delayed s jitter before) ≡ bytes_in column before + bytes_over (envelope_in column s).rate jitter
delays Green s jitter before = refl
delays All s jitter before = refl
delays Excess s jitter before = refl

Grows-least : (column : Column) (s : Source) (jitters : List ℕ) (before : Bound) → Grows column s jitters before (least_behind s jitters before)
unfolding Grows least_behind
Grows-least column s [] before = tt
Grows-least column s (jitter ∷ jitters) before = (omega (arith, delays column s jitter before), Grows-least column s jitters (delayed s jitter before))

MeetsIn-least : (column : Column) (s : Source) (jitters : List ℕ) → MeetsIn column s jitters (least_along s jitters)
MeetsIn-least column s jitters = (omega (arith, enters column s), Grows-least column s jitters (entering s))

below_behind : (column : Column) (s : Source) (jitters : List ℕ) (before other : Bound) (bounds : List Bound) → bytes_in column before ≤ bytes_in column other
    → length bounds ≡ length jitters → Grows column s jitters other bounds → AllZip (λ a b. bytes_in column a ≤ bytes_in column b) (least_behind s jitters before) bounds
unfolding Grows least_behind
below_behind column s [] before other [] low long grown = tt
below_behind column s [] before other (b ∷ bounds) low long grown = absurd (omega (arith, long))
below_behind column s (jitter ∷ jitters) before other [] low long grown = absurd (omega (arith, long))
below_behind column s (jitter ∷ jitters) before other (b ∷ bounds) low long grown =
    let step : bytes_in column (delayed s jitter before) ≤ bytes_in column b = omega (arith, delays column s jitter before, grown.0) in
    (step, below_behind column s jitters (delayed s jitter before) b bounds step (omega (arith, long)) grown.1)

below_along : (column : Column) (s : Source) (jitters : List ℕ) (bounds : List Bound)
    → length bounds ≡ suc (length jitters) → MeetsIn column s jitters bounds → AllZip (λ a b. bytes_in column a ≤ bytes_in column b) (least_along s jitters) bounds
below_along column s jitters [] long met = absurd (omega (arith, long))
below_along column s jitters (first ∷ bounds) long met =
    let low : bytes_in column (entering s) ≤ bytes_in column first = omega (arith, enters column s, met.0) in
    (low, below_behind column s jitters (entering s) first bounds low (omega (arith, long)) met.1)

-- what holds place by place in every column holds in each, place by place
AllZip-each : (R : Column → Bound → Bound → Type 0) (xs ys : List Bound) → ((column : Column) → AllZip (R column) xs ys)
    → AllZip (λ x y. InEach (λ column. R column x y)) xs ys
AllZip-each R [] [] every = tt
AllZip-each R [] (y ∷ ys) every = absurd (every Green)
AllZip-each R (x ∷ xs) [] every = absurd (every Green)
AllZip-each R (x ∷ xs) (y ∷ ys) every =
    (each_of (λ column. R column x y) (λ column. (every column).0), AllZip-each R xs ys (λ column. (every column).1))

pub HasShape-least : (d : Domain) (c : Contract) → IsTrue (fits d c) → HasShape d c (least_of d c)
HasShape-least d c good =
    (good, ap suc (length-least_behind (source_of d c) (jitters_of d c) (entering (source_of d c)) ∙ length-jitters_along d c.port c.path))

pub Meets-least : (d : Domain) (c : Contract) → Meets d c (least_of d c)
Meets-least d c = each_of (λ column. MeetsIn column (source_of d c) (jitters_of d c) (least_of d c))
    (λ column. MeetsIn-least column (source_of d c) (jitters_of d c))

pub least_below : (d : Domain) (c : Contract) (bounds : List Bound) → HasShape d c bounds → Meets d c bounds → AllZip IsAtMost (least_of d c) bounds
least_below d c bounds shape met =
    let long : length bounds ≡ suc (length (jitters_of d c)) = shape.1 ∙ ap suc (sym (length-jitters_along d c.port c.path)) in
    AllZip-each (λ column a b. bytes_in column a ≤ bytes_in column b) (least_of d c) bounds
    (λ column. below_along column (source_of d c) (jitters_of d c) bounds long
    (in_column (λ k. MeetsIn k (source_of d c) (jitters_of d c) bounds) met column))

-- the least certificate is one, where all contracts fit
pub IsCertificate-least : (d : Domain) (contracts : List Contract) → list_all (fits d) contracts ≡ true → IsCertificate d contracts (least d contracts)
IsCertificate-least d [] good = tt
IsCertificate-least d (c ∷ contracts) good =
    let parts = and_parts (fits d c) (list_all (fits d) contracts) good in
    ((HasShape-least d c parts.0, Meets-least d c), IsCertificate-least d contracts parts.1)

-- and none has a bound below its own
pub least-below : (d : Domain) (contracts : List Contract) (other : List (List Bound)) → IsCertificate d contracts other → AreAtMost (least d contracts) other
least-below d [] [] met = tt
least-below d [] (bounds ∷ rows) met = absurd met
least-below d (c ∷ contracts) [] met = absurd met
least-below d (c ∷ contracts) (bounds ∷ rows) met = (least_below d c bounds met.0.0 met.0.1, least-below d contracts rows met.1)

-- ---- contract by contract
ahead : (contracts : List Contract) (i : ℕ) (c : Contract) → i < length contracts → c ≡ get_or contracts i c → drop i contracts ≡ c ∷ drop (i + 1) contracts
ahead contracts i c inside is = drop_more contracts i c inside ∙ ap (λ own. own ∷ drop (i + 1) contracts) (sym is)

-- one that fits, and one that does not
pub one_fitting : (d : Domain) (contracts : List Contract) (i : ℕ) (c : Contract) → i < length contracts → c ≡ get_or contracts i c → fits d c ≡ true
    → list_all (fits d) (drop (i + 1) contracts) ≡ list_all (fits d) (drop i contracts)
one_fitting d contracts i c inside is fit =
    sym (ap (list_all (fits d)) (ahead contracts i c inside is) ∙ ap (λ f. f && list_all (fits d) (drop (i + 1) contracts)) fit)

pub none_fitting : (d : Domain) (contracts : List Contract) (i : ℕ) (c : Contract) → i < length contracts → c ≡ get_or contracts i c → fits d c ≡ false
    → list_all (fits d) (drop i contracts) ≡ false
none_fitting d contracts i c inside is unfit =
    ap (list_all (fits d)) (ahead contracts i c inside is) ∙ ap (λ f. f && list_all (fits d) (drop (i + 1) contracts)) unfit

pub all_fitting : (d : Domain) (contracts : List Contract) (i : ℕ) → length contracts ≤ i → list_all (fits d) (drop i contracts) ≡ true
all_fitting d contracts i done = ap (list_all (fits d)) (drop_all i contracts done)

-- nothing was lacking
pub kept_parts : (lacking kept : Bool) → (lacking || not kept) ≡ false → (lacking ≡ false) × (kept ≡ true)
kept_parts false true none = (refl, refl)
kept_parts false false none = absurd cc
kept_parts true kept none = absurd cc

pub rows_kept : (d : Domain) (contracts : List Contract) (done more : List (List Bound)) (i : ℕ) (c : Contract) → i < length contracts → c ≡ get_or contracts i c
    → more ≡ done ++ least_of d c ∷ [] → done ++ least d (drop i contracts) ≡ least d contracts → more ++ least d (drop (i + 1) contracts) ≡ least d contracts
rows_kept d contracts done more i c inside is is_more kept =
    ap (λ items. items ++ least d (drop (i + 1) contracts)) is_more
    ∙ append_assoc done (least_of d c ∷ []) (least d (drop (i + 1) contracts))
    ∙ sym (ap (λ rest. done ++ least d rest) (ahead contracts i c inside is))
    ∙ kept

pub least-made : (d : Domain) (contracts : List Contract) (rows result : List (List Bound)) (i : ℕ) → length contracts ≤ i → rows ++ least d (drop i contracts) ≡ least d contracts
    → result ≡ rows → result ≡ least d contracts
least-made d contracts rows result i done kept is_result =
    is_result ∙ sym (append-nil rows) ∙ sym (ap (λ left. rows ++ least d left) (drop_all i contracts done)) ∙ kept

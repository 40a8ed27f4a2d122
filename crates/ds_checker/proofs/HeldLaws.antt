-- The routes beside the contracts of a table.
use Rattle.std.proofs.Common.{◌≡◌, ℕ, zero, suc, List, [], ◌∷◌, ◌++◌, length, map, refl, sym, ap, ◌∙◌, remove}
use Rattle.std.proofs.lemmas.List.{length-map, map-append}
use Rattle.ds_domain_base.specs.Domains.{Domain}
use Rattle.ds_domain_base.specs.Lifetimes.{Span}
use Rattle.ds_domain_base.specs.declared.contract.Contract.{Contract}
use Rattle.ds_domain_base.specs.Routes.{Route, route_of}
use Rattle.ds_checker.specs.Changes.{lasting_at}

-- one contract more, and its route
pub routes-more : (d : Domain) (contracts new : List Contract) (routes more : List Route) (c : Contract) (r : Route) → routes ≡ map (route_of d) contracts → r ≡ route_of d c
    → new ≡ contracts ++ c ∷ [] → more ≡ routes ++ r ∷ [] → more ≡ map (route_of d) new
routes-more d contracts new routes more c r are is is_new is_more =
    is_more ∙ ap (λ list. list ++ r ∷ []) are ∙ ap (λ own. map (route_of d) contracts ++ own ∷ []) is
    ∙ sym (map-append (route_of d) contracts (c ∷ [])) ∙ ap (map (route_of d)) (sym is_new)

pub map-remove : {X Y : Type 0} (f : X → Y) (xs : List X) (i : ℕ) → remove (map f xs) i ≡ map f (remove xs i)
map-remove f [] zero = refl
map-remove f [] (suc i) = refl
map-remove f (x ∷ xs) zero = refl
map-remove f (x ∷ xs) (suc i) = ap (λ rest. f x ∷ rest) (map-remove f xs i)

-- one fewer
pub routes-less : (d : Domain) (contracts new : List Contract) (routes less : List Route) (i : ℕ) → routes ≡ map (route_of d) contracts → new ≡ remove contracts i → less ≡ remove routes i
    → less ≡ map (route_of d) new
routes-less d contracts new routes less i are is_new is_less =
    is_less ∙ ap (λ list. remove list i) are ∙ map-remove (route_of d) contracts i ∙ ap (map (route_of d)) (sym is_new)

-- another lifetime of one
pub routes-lasting : (d : Domain) (contracts : List Contract) (i : ℕ) (lifetime : Span) → map (route_of d) (lasting_at i lifetime contracts) ≡ map (route_of d) contracts
unfolding lasting_at
routes-lasting d [] zero lifetime = refl
routes-lasting d [] (suc i) lifetime = refl
routes-lasting d (c ∷ contracts) zero lifetime = refl
routes-lasting d (c ∷ contracts) (suc i) lifetime = ap (λ rest. route_of d c ∷ rest) (routes-lasting d contracts i lifetime)

-- the route at a place
pub routes-long : (d : Domain) (contracts : List Contract) (routes : List Route) → routes ≡ map (route_of d) contracts → length routes ≡ length contracts
routes-long d contracts routes are = ap length are ∙ length-map contracts (route_of d)

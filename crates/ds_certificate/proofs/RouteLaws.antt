-- The least bounds of a contract, by its route.
use Rattle.std.proofs.Common.{◌≡◌, ℕ, ◌+◌, ◌<◌, List, [], ◌∷◌, ◌++◌, append_assoc, append-nil, drop, get_or, length, refl, sym, ap, ◌∙◌}
use Rattle.std.proofs.lemmas.List.{drop_more}
use Rattle.ds_domain_base.specs.Domains.{Domain, jitter_of, link_of}
use Rattle.ds_domain_base.specs.Routes.{Route, jitters_in, legs_along, route_of}
use Rattle.ds_domain_base.specs.declared.contract.Contract.{Contract}
use Rattle.ds_domain_base.specs.declared.route.Leg.{Leg}
use Rattle.ds_certificate.specs.Bounds.{delayed, least_along, least_behind, least_of, least_on}
use Rattle.ds_certificate.specs.Columns.{Bound}
use Rattle.ds_certificate.specs.Sources.{jitters_along, source_of, source_on}
use Rattle.ds_certificate.specs.declared.source.Source.{Source}

-- the jitters of the legs of a path are those of its links
pub jitters-legs : (d : Domain) (from : List ℕ) (path : List (List ℕ)) → jitters_in (legs_along d from path) ≡ jitters_along d from path
unfolding legs_along jitters_along
jitters-legs d from [] = refl
jitters-legs d from (to ∷ path) = ap (λ jitters. jitter_of (link_of d from to) ∷ jitters) (jitters-legs d to path)

-- what a contract's traffic keeps, and its least bounds, are told by its route
pub source-route : (d : Domain) (c : Contract) (route : Route) → route ≡ route_of d c → source_on d route c.terms ≡ source_of d c
unfolding source_of
source-route d c route is = ap (λ r. source_on d r c.terms) is

pub least-route : (d : Domain) (c : Contract) (route : Route) (source : Source) → route ≡ route_of d c → source ≡ source_on d route c.terms
    → least_on source route ≡ least_of d c
least-route d c route source is is_source =
    ap (λ s. least_on s route) (is_source ∙ source-route d c route is)
    ∙ ap (least_on (source_of d c)) is
    ∙ ap (λ jitters. least_along (source_of d c) jitters) (jitters-legs d c.port c.path)

-- one leg more
pub leg_kept : (done more : List Bound) (s : Source) (legs : List Leg) (i : ℕ) (leg : Leg) (last next : Bound) (whole : List Bound)
    → i < length legs → leg ≡ get_or legs i leg → next ≡ delayed s leg.jitter last → more ≡ done ++ next ∷ []
    → done ++ least_behind s (jitters_in (drop i legs)) last ≡ whole → more ++ least_behind s (jitters_in (drop (i + 1) legs)) next ≡ whole
unfolding least_behind
leg_kept done more s legs i leg last next whole inside is_leg is_next is_more kept =
    let here : drop i legs ≡ leg ∷ drop (i + 1) legs = drop_more legs i leg inside ∙ ap (λ l. l ∷ drop (i + 1) legs) (sym is_leg) in
    ap (λ items. items ++ least_behind s (jitters_in (drop (i + 1) legs)) next) is_more
    ∙ append_assoc done (next ∷ []) (least_behind s (jitters_in (drop (i + 1) legs)) next)
    ∙ ap (λ b. done ++ b ∷ least_behind s (jitters_in (drop (i + 1) legs)) b) is_next
    ∙ sym (ap (λ rest. done ++ least_behind s (jitters_in rest) last) here)
    ∙ kept

pub legs-ended : (done : List Bound) (s : Source) (left : List Leg) (last : Bound) (whole : List Bound) → left ≡ []
    → done ++ least_behind s (jitters_in left) last ≡ whole → done ≡ whole
unfolding least_behind
legs-ended done s left last whole ended kept = sym (append-nil done) ∙ sym (ap (λ rest. done ++ least_behind s (jitters_in rest) last) ended) ∙ kept

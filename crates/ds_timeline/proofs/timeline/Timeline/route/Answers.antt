use Rattle.std.proofs.Common.{sym, ap, ◌∙◌, option_map, slice_get}
use Rattle.std.proofs.lemmas.Option.{slice_get-map}
use Rattle.ds_timeline.specs.Timelines.{reservation_of, route_in}
use Rattle.ds_timeline.proofs.NumberedLaws.{numbered-found}
use Rattle.ds_timeline.proofs.timeline.Timeline.route.Goals as goal

pub returns : goal.returns
returns c =
    let d = c.self.inside.domain in
    let rs = c.self.inside.reservations.items in
    c.route_at.ensures ∙ ap (λ list. slice_get list c.args.flow) (c.as_slice.ensures.value ∙ c.self.invariant.beside)
    ∙ slice_get-map (route_in d) rs c.args.flow
    ∙ ap (option_map (route_in d)) (sym (numbered-found c.args.flow rs c.self.invariant.timeline.numbered))
    ∙ ap (λ t. option_map (route_in t.domain) (reservation_of t c.args.flow)) c.self.view_is

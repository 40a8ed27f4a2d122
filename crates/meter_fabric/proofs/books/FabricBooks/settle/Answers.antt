use Rattle.std.proofs.Common.{◌≡◌, ◌≤◌, List, Option, length, ap, arith, sym, subst, ◌∙◌}
use Rattle.std.proofs.lemmas.List.Elements.{All-same}
use Rattle.meter_book.specs.Replay.{Book, Journal}
use Rattle.meter_fabric.specs.Closing.{Books, HaveMeters, RiseFrom, journals_from, rows_in}
use Rattle.meter_fabric.specs.Fabrics.{Fabric, StandFrom, visits_at}
use Rattle.meter_fabric.specs.Gathered.{AreGathered, HaveAll}
use Rattle.meter_fabric.proofs.JournalLaws.{have_all, journals_long, journals_of_meters, journals_rise, journals_rows}
use Rattle.meter_fabric.proofs.books.FabricBooks.settle.Goals as goal

pub journals_of-requires-clause-all : goal.journals_of-requires-clause-all
journals_of-requires-clause-all g c =
    let same : c.self.inside.books.items ≡ c.args.self.books = ap (λ (b : Books). b.books) c.self.view_is ∙ ap (λ (b : Books). b.books) c.in-Ok.ensures.books in
    subst (λ (books : List (Option Book)). HaveAll books c.in-Ok.gathered.items) (sym same)
    (have_all c.as_slice.result.now c.args.self.books c.in-Ok.gathered.items c.in-Ok.ensures.there c.in-Ok.ensures.gathered)

pub returns-in-Ok-clause-long : goal.returns-in-Ok-clause-long
returns-in-Ok-clause-long g c =
    let all = c.as_slice.result.now in
    let same : c.self.inside.books.items ≡ c.args.self.books = ap (λ (b : Books). b.books) c.self.view_is ∙ ap (λ (b : Books). b.books) c.in-Ok.ensures.books in
    let is = c.journals_of.ensures all (subst (λ (books : List (Option Book)). AreGathered all books c.in-Ok.gathered.items) (sym same) c.in-Ok.ensures.gathered) in
    All-same (λ (j : Journal). length j.arrivals ≡ visits_at c.args.passes.items j.site) c.journals_of.result.items (journals_from 0 all c.args.self.books)
    (is ∙ ap (journals_from 0 all) same) (journals_long all c.args.self.books c.args.passes.items c.in-Ok.ensures.there c.in-Ok.ensures.even)

pub returns-in-Ok-clause-rising : goal.returns-in-Ok-clause-rising
returns-in-Ok-clause-rising g c =
    let all = c.as_slice.result.now in
    let same : c.self.inside.books.items ≡ c.args.self.books = ap (λ (b : Books). b.books) c.self.view_is ∙ ap (λ (b : Books). b.books) c.in-Ok.ensures.books in
    let is = c.journals_of.ensures all (subst (λ (books : List (Option Book)). AreGathered all books c.in-Ok.gathered.items) (sym same) c.in-Ok.ensures.gathered) in
    subst (RiseFrom 0) (sym (is ∙ ap (journals_from 0 all) same)) (journals_rise all c.args.self.books)

pub returns-in-Ok-clause-total : goal.returns-in-Ok-clause-total
returns-in-Ok-clause-total g c =
    let all = c.as_slice.result.now in
    let same : c.self.inside.books.items ≡ c.args.self.books = ap (λ (b : Books). b.books) c.self.view_is ∙ ap (λ (b : Books). b.books) c.in-Ok.ensures.books in
    let is = c.journals_of.ensures all (subst (λ (books : List (Option Book)). AreGathered all books c.in-Ok.gathered.items) (sym same) c.in-Ok.ensures.gathered) in
    ap rows_in (is ∙ ap (journals_from 0 all) same) ∙ journals_rows all c.args.self.books c.in-Ok.ensures.there ∙ c.in-Ok.ensures.total

pub returns-in-Ok-clause-meters : goal.returns-in-Ok-clause-meters
returns-in-Ok-clause-meters g c =
    let all = c.as_slice.result.now in
    let f = g.L.FabricLedger.fabric in
    let same : c.self.inside.books.items ≡ c.args.self.books = ap (λ (b : Books). b.books) c.self.view_is ∙ ap (λ (b : Books). b.books) c.in-Ok.ensures.books in
    let own : f ≡ c.args.self.fabric = ap (λ (b : Books). b.fabric) c.self.view_is ∙ ap (λ (b : Books). b.fabric) c.in-Ok.ensures.books in
    let is = c.journals_of.ensures all (subst (λ (books : List (Option Book)). AreGathered all books c.in-Ok.gathered.items) (sym same) c.in-Ok.ensures.gathered) in
    let many : length f.domain.meters ≤ length c.args.self.books = omega (arith, ap length same, c.self.invariant.2) in
    subst (λ (x : Fabric). HaveMeters x c.journals_of.result.items) own
    (subst (HaveMeters f) (sym (is ∙ ap (journals_from 0 all) same)) (journals_of_meters f all c.args.self.books (subst (StandFrom f 0) same c.self.invariant.4) many))

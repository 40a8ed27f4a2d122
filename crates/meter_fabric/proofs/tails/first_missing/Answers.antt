use Rattle.std.proofs.Common.{◌≡◌, ℕ, get_or, Option, None, Some, arith, refl, subst, below_more, MatchOption}
use Rattle.std.proofs.lemmas.Bool.{false≢true}
use Rattle.meter_book.specs.Replay.{Book}
use Rattle.meter_book.specs.Gathering.{of_site}
use Rattle.meter_fabric.specs.Closing.{AreThere, IsFirstMissing, IsThere}
use Rattle.meter_fabric.specs.Fabrics.{book_at}
use Rattle.meter_fabric.specs.Tails.{IsClosedBy, IsTail}
use Rattle.meter_fabric.specs.declared.tails.Tail.TheVariants.{Fresh}
use Rattle.meter_fabric.proofs.TailLaws.{IsMissing, book_read, closed_there, missing_stray, reaches, there_closed}
use Rattle.meter_fabric.proofs.tails.first_missing.Goals as goal

pub is_closed-requires : goal.is_closed-requires
is_closed-requires c =
    reaches c.args.chapters.now (of_site c.loop-site.site c.args.chapters.now) (get_or c.args.tails.now c.loop-site.site Fresh)
    (c.requires.tails c.loop-site.site (omega (arith, c.requires.count)))

-- what stands at a site is there where it goes on behind the tail, and only there
module _ (c : goal.After-index-books-site) where
  is_tail : IsTail c.args.chapters.now (of_site c.loop-site.site c.args.chapters.now) (get_or c.args.tails.now c.loop-site.site Fresh)
  is_tail = c.requires.tails c.loop-site.site (omega (arith, c.requires.count))

  book_is : book_at c.args.books.now c.loop-site.site ≡ c.index-books-site.result
  book_is = book_read c.args.books.now c.loop-site.site c.index-books-site.result c.loop-site-test.true c.index-books-site.is

  is_there : IsClosedBy c.args.chapters.now (get_or c.args.tails.now c.loop-site.site Fresh) c.index-books-site.result → IsThere c.args.chapters.now c.loop-site.site (book_at c.args.books.now c.loop-site.site)
  is_there closed = rw book_is (closed_there c.args.chapters.now c.loop-site.site (get_or c.args.tails.now c.loop-site.site Fresh) c.index-books-site.result is_tail closed)

  is_closed : IsThere c.args.chapters.now c.loop-site.site (book_at c.args.books.now c.loop-site.site) → IsClosedBy c.args.chapters.now (get_or c.args.tails.now c.loop-site.site Fresh) c.index-books-site.result
  is_closed there =
      there_closed c.args.chapters.now c.loop-site.site (get_or c.args.tails.now c.loop-site.site Fresh) c.index-books-site.result is_tail
      (subst (λ (b : Option Book). IsThere c.args.chapters.now c.loop-site.site b) book_is there)

pub returns-then-not-is_closed : goal.returns-then-not-is_closed
returns-then-not-is_closed c = (
  c.loop-site.invariant,
  λ there. false≢true (c.if-not-is_closed.ensures.1 (is_closed c.before.before there)),
)

pub loop-site-preserved : goal.loop-site-preserved
loop-site-preserved c = below_more _ _ c.loop-site.invariant (is_there c.before.before (c.if-not-is_closed.ensures.0 refl))

pub returns : goal.returns
returns c =
    found c.first_stray.result (missing_stray c.args.chapters.now c.args.books.now c.first_stray.result (λ s below. c.loop-site.invariant s (omega (arith, below, c.loop-site-test.false))) c.first_stray.ensures)
  where
    found : (r : Option ℕ) → IsMissing c.args.books.now c.args.chapters.now r → MatchOption r (AreThere c.args.books.now c.args.chapters.now) (IsFirstMissing c.args.books.now c.args.chapters.now)
    found None is = is
    found (Some s) is = is

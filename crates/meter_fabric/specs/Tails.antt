-- How far the chapters of a site join.
use Rattle.std.specs.Prelude.{◌≡◌, ◌≢◌, ℕ, ◌<◌, ◌≤◌, List, [], length, slice_get, slice_index_or, Option, None, Some, IfSome}
use Rattle.meter_book.specs.Chapters.{Chapter, GoesOn, closing_of}
use Rattle.meter_book.specs.Gathering.{AreJoint, last_in, of_site}
use Rattle.meter_book.specs.Replay.{Book}
use Rattle.meter_fabric.specs.declared.tails.Tail.{Tail}
use Rattle.meter_fabric.specs.declared.tails.Tail.TheVariants.{Fresh, At, Broken}

-- the tail is that of a chapter among them
abbrev pub Reaches : List Chapter → Tail → Type 0
Reaches chapters Fresh = Unit {0}
Reaches chapters (At k) = k < length chapters
Reaches chapters Broken = Unit {0}

-- the tail of the chapters of a site, among the chapters of all sites
abbrev pub IsTail : List Chapter → List Chapter → Tail → Type 0
IsTail chapters own Fresh = own ≡ []
IsTail chapters own (At k) = AreJoint own × (k < length chapters) × (slice_get chapters k ≡ last_in own)
IsTail chapters own Broken = ¬ AreJoint own

-- the tails of all sites, of the chapters so far
abbrev pub AreTails : List Chapter → List Chapter → List Tail → Type 0
AreTails chapters so_far tails =
    (site : ℕ) → site < length tails → IsTail chapters (of_site site so_far) (slice_index_or tails site Fresh)

-- a chapter goes on behind a tail
abbrev pub JoinsTail : List Chapter → Tail → Chapter → Type 0
JoinsTail chapters Fresh c = c.opening.place ≡ 0
JoinsTail chapters (At k) c = IfSome (slice_get chapters k) (λ before. GoesOn before c)
JoinsTail chapters Broken c = ⊥

-- the tail behind a tail and the chapter of an index
abbrev pub IsAfter : List Chapter → Tail → ℕ → Tail → Type 0
IsAfter chapters tail index Fresh = ⊥
IsAfter chapters tail index (At k) = (k ≡ index) × IfSome (slice_get chapters index) (JoinsTail chapters tail)
IsAfter chapters tail index Broken = IfSome (slice_get chapters index) (λ c. ¬ JoinsTail chapters tail c)

-- what stands at a site goes on behind the tail of its chapters, or there is neither
abbrev pub IsClosedBy : List Chapter → Tail → Option Book → Type 0
IsClosedBy chapters Fresh None = Unit {0}
IsClosedBy chapters (At k) None = ⊥
IsClosedBy chapters Broken None = ⊥
IsClosedBy chapters Fresh (Some b) = b.opening.place ≡ 0
IsClosedBy chapters (At k) (Some b) = IfSome (slice_get chapters k) (λ before. b.opening ≡ closing_of before)
IsClosedBy chapters Broken (Some b) = ⊥

-- the least site from a number on of which there is a chapter, if there is any
abbrev pub IsLeastStray : List Chapter → ℕ → Option ℕ → Type 0
IsLeastStray chapters sites None = (s : ℕ) → sites ≤ s → of_site s chapters ≡ []
IsLeastStray chapters sites (Some site) =
    (sites ≤ site) × ((s : ℕ) → sites ≤ s → s < site → of_site s chapters ≡ []) × (of_site site chapters ≢ [])

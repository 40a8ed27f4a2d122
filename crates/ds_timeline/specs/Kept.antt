-- What the type of a timeline keeps.
use Rattle.std.specs.Prelude.{◌≡◌, ℕ, suc, ◌≤◌, ◌^◌, ⊤, List, [], ◌∷◌, length}
use Rattle.ds_domain_base.specs.Routes.{Route}
use Rattle.ds_timeline.specs.Timelines.{AreRated, IsCovered, Timeline, routes_in}
use Rattle.ds_timeline.specs.declared.reservation.Reservation.{Reservation}

-- flows count up from a number
unfoldable pub IsNumbered : ℕ → List Reservation → Type 0
IsNumbered number [] = ⊤
IsNumbered number (r ∷ reservations) = (r.flow ≡ number) × IsNumbered (suc number) reservations

-- A timeline is covered, what was retired had rates, the flow of a contract is its place, and there are no more
-- contracts than a broker's book accepts commands.
pub record IsTimeline (t : Timeline) : Type 0 where
  pub covered : IsCovered t
  pub rated : AreRated t
  pub numbered : IsNumbered 0 t.reservations
  pub few : length t.reservations ≤ 2 ^ 24

-- beside it stand the routes of its contracts
pub record IsRouted (t : Timeline) (routes : List Route) : Type 0 where
  pub timeline : IsTimeline t
  pub beside : routes ≡ routes_in t.domain t.reservations

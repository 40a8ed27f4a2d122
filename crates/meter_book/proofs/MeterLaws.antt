-- What each step of a meter keeps, over every list of packets.
use Rattle.std.proofs.Common.{zero, suc, List, [], ◌∷◌, arith}
use Rattle.std.specs.List.{All}
use Rattle.moment_core.specs.Colours.{IsNoBetter}
use Rattle.moment_core.specs.Metering.{Departure, How, Offer, departures}
use Rattle.meter_book.specs.Laws.{after_all}

-- what no packet of an aware meter does, none of them does one after the other
pub departures_never_improve : {S : Type 0} (h : How S) (IsAware : S → Type 0) → ((m : S) (o : Offer) → IsAware m → IsNoBetter o.came (h.left m o))
    → ((m : S) (o : Offer) → IsAware m → IsAware (h.after m o)) → (m : S) (offers : List Offer) → IsAware m
    → All (λ (d : Departure). IsNoBetter d.came d.left) (departures h m offers)
departures_never_improve h IsAware no_better stays m [] aware k d below = absurd (omega (arith, below))
departures_never_improve h IsAware no_better stays m (o ∷ os) aware zero d below = no_better m o aware
departures_never_improve h IsAware no_better stays m (o ∷ os) aware (suc k) d below =
    departures_never_improve h IsAware no_better stays (h.after m o) os (stays m o aware) k d (omega (arith, below))

-- what each packet keeps, all of them keep
pub kept-after_all : {S : Type 0} (h : How S) (Fits : S → Type 0) → ((m : S) (o : Offer) → Fits m → Fits (h.after m o))
    → (m : S) (offers : List Offer) → Fits m → Fits (after_all h m offers)
kept-after_all h Fits stays m [] fit = fit
kept-after_all h Fits stays m (o ∷ os) fit = kept-after_all h Fits stays (h.after m o) os (stays m o fit)

-- What visits keep.
use Rattle.std.specs.Prelude.{◌≡◌, ℕ, ◌+◌, ◌<◌, ◌^◌, List, [], ◌++◌, length, None}
use Rattle.ds_checker.specs.Acceptance.{Table}
use Rattle.meter_fabric_base.specs.Orders.{in_order}
use Rattle.ds_conductor_base.specs.Passing.{colours_of}
use Rattle.ds_conductor_base.specs.Streams.{AreSentAt, ComeFrom, Stream, begun, colours_left, decided, due, late}
use Rattle.ds_conductor_base.specs.Visits.{is_before, visits_from, visits_of}
use Rattle.ds_conductor_base.specs.Ways.{IsHeadStart}
use Rattle.ds_conductor_base.specs.declared.sent.Sent.{Sent}

-- Each packet leaves with one colour.
abbrev pub OneColourEach : Type 0
OneColourEach = (t : Table) (sent : List Sent) → length (colours_of t sent) ≡ length sent

-- What comes to no stop before a moment changes none of the visits at or before it, and comes behind them.
abbrev pub VisitsUpToAMomentAreFinal : Type 0
VisitsUpToAMomentAreFinal =
    (t : Table) (front back : List Sent) (moment : ℕ) → moment < 2 ^ 63 → ComeFrom t moment back
    → visits_of t (front ++ back)
    ≡ due moment (visits_of t front)
    ++ in_order is_before (late moment (visits_of t front) ++ visits_from t (length front) back)

-- What is sent at a port at a moment or later comes to no stop before that moment and a head start of the port.
abbrev pub HeadStartsHold : Type 0
HeadStartsHold = (t : Table) (port : List ℕ) (delay moment : ℕ) (sent : List Sent)
    → IsHeadStart t port delay → AreSentAt t port moment sent → ComeFrom t (moment + delay) sent

-- Before the first packet is sent, the colours of all are still to come.
abbrev pub AllColoursCome : Type 0
AllColoursCome = (t : Table) (sent : List Sent) → colours_left (begun t) sent ≡ colours_of t sent

-- Where all visits are made and the next packet is not decided, no colour is still to come.
abbrev pub NoColourIsLeft : Type 0
NoColourIsLeft = (u : Stream) → u.waiting ≡ [] → decided u ≡ None → colours_left u [] ≡ []

-- What visits make of packets that stand before or behind others.
use Rattle.std.proofs.Common.{◌≡◌, ◌<◌, ◌≤◌, ◌-◌, ℕ, zero, suc, List, [], ◌∷◌, ◌++◌, length, length-set, map, Option, None, Some, refl, ap, ◌∙◌, arith, slice_get, slice_set, All}
use Rattle.std.proofs.lemmas.List.{set-append_left}
use Rattle.std.proofs.lemmas.List.Elements.{All-head, All-tail}
use Rattle.meter_book_base.specs.declared.any_meter.AnyMeter.{AnyMeter}
use Rattle.ds_conductor_base.specs.Streams.{IsAmong, with_packets}
use Rattle.ds_conductor_base.specs.Passing.{Carried, Traffic, met, meter_in, passed, passed_all, passed_by}
use Rattle.ds_conductor_base.specs.declared.visit.Visit.{Visit}

-- ---- visits one behind the other

pub passed_all-both : (g : Traffic) (xs ys : List Visit) → passed_all g (xs ++ ys) ≡ passed_all (passed_all g xs) ys
unfolding passed_all
passed_all-both g [] ys = refl
passed_all-both g (v ∷ xs) ys = passed_all-both (passed g v) xs ys

-- ---- as many packets stay, and the first keeps its place

passed_by-first : (g : Traffic) (v : Visit) (p : Option Carried) → (passed_by g v p).first ≡ g.first
passed_by-first g v None = refl
passed_by-first g v (Some p) = refl

passed_by-count : (g : Traffic) (v : Visit) (p : Option Carried) → length (passed_by g v p).packets ≡ length g.packets
passed_by-count g v None = refl
passed_by-count g v (Some p) = length-set g.packets (v.place - g.first) (record p { colour = (met (meter_in g.meters v.hop.site) v p).1 })

pub passed-first : (g : Traffic) (v : Visit) → (passed g v).first ≡ g.first
unfolding passed
passed-first g v = passed_by-first g v (slice_get g.packets (v.place - g.first))

pub passed-count : (g : Traffic) (v : Visit) → length (passed g v).packets ≡ length g.packets
unfolding passed
passed-count g v = passed_by-count g v (slice_get g.packets (v.place - g.first))

pub passed_all-first : (g : Traffic) (visits : List Visit) → (passed_all g visits).first ≡ g.first
unfolding passed_all
passed_all-first g [] = refl
passed_all-first g (v ∷ visits) = passed_all-first (passed g v) visits ∙ passed-first g v

pub passed_all-count : (g : Traffic) (visits : List Visit) → length (passed_all g visits).packets ≡ length g.packets
unfolding passed_all
passed_all-count g [] = refl
passed_all-count g (v ∷ visits) = passed_all-count (passed g v) visits ∙ passed-count g v

-- ---- packets that stand behind those of the visits stay as they are

get_front : {A : Type 0} (xs ys : List A) (i : ℕ) → i < length xs → slice_get (xs ++ ys) i ≡ slice_get xs i
get_front [] ys i short = absurd (omega (arith, short))
get_front (x ∷ xs) ys zero short = refl
get_front (x ∷ xs) ys (suc i) short = get_front xs ys i (omega (arith, short))

passed_by-with : (g : Traffic) (v : Visit) (behind : List Carried) (p : Option Carried) → v.place - g.first < length g.packets
    → passed_by (with_packets g behind) v p ≡ with_packets (passed_by g v p) behind
passed_by-with g v behind None short = refl
passed_by-with g v behind (Some p) short =
    let m = met (meter_in g.meters v.hop.site) v p in
    let ms : List (Option AnyMeter) = slice_set g.meters v.hop.site m.0 in
    ap (λ (packets : List Carried). let h : Traffic = record { meters = ms; first = g.first; packets = packets } in h)
    (set-append_left g.packets behind (v.place - g.first) (record p { colour = m.1 }) short)

passed-with : (g : Traffic) (v : Visit) (behind : List Carried) → v.place - g.first < length g.packets
    → passed (with_packets g behind) v ≡ with_packets (passed g v) behind
unfolding passed
passed-with g v behind short =
    ap (passed_by (with_packets g behind) v) (get_front g.packets behind (v.place - g.first) short)
    ∙ passed_by-with g v behind (slice_get g.packets (v.place - g.first)) short

pub passed_all-with : (g : Traffic) (visits : List Visit) (behind : List Carried) → All (IsAmong g.first (length g.packets)) visits
    → passed_all (with_packets g behind) visits ≡ with_packets (passed_all g visits) behind
unfolding passed_all
passed_all-with g [] behind among = refl
passed_all-with g (v ∷ visits) behind among =
    let here = All-head (IsAmong g.first (length g.packets)) v visits among in
    let count = passed-count g v in
    let first = passed-first g v in
    ap (λ (h : Traffic). passed_all h visits) (passed-with g v behind (omega (arith, here.0, here.1)))
    ∙ passed_all-with (passed g v) visits behind
    (λ k d short. let there = All-tail (IsAmong g.first (length g.packets)) v visits among k d short in (omega (arith, there.0, first), omega (arith, there.1, first, count)))

-- ---- a packet that stands before those of the visits stays as it is

-- the packets with one before them
abbrev pub with_first : ℕ → Carried → Traffic → Traffic
with_first first p g = record { meters = g.meters; first = first; packets = p ∷ g.packets }

passed_by-behind : (g : Traffic) (first : ℕ) (q : Carried) (v : Visit) (p : Option Carried) → v.place - first ≡ suc (v.place - g.first)
    → passed_by (with_first first q g) v p ≡ with_first first q (passed_by g v p)
passed_by-behind g first q v None place = refl
passed_by-behind g first q v (Some p) place =
    let m = met (meter_in g.meters v.hop.site) v p in
    let ms : List (Option AnyMeter) = slice_set g.meters v.hop.site m.0 in
    let c : Carried = record p { colour = m.1 } in
    ap (λ (i : ℕ). let h : Traffic = record { meters = ms; first = first; packets = slice_set (q ∷ g.packets) i c } in h) place

passed-behind : (g : Traffic) (first : ℕ) (q : Carried) (v : Visit) → v.place - first ≡ suc (v.place - g.first)
    → passed (with_first first q g) v ≡ with_first first q (passed g v)
unfolding passed
passed-behind g first q v place =
    ap (λ (i : ℕ). passed_by (with_first first q g) v (slice_get (q ∷ g.packets) i)) place
    ∙ passed_by-behind g first q v (slice_get g.packets (v.place - g.first)) place

pub passed_all-behind : (g : Traffic) (first : ℕ) (q : Carried) (visits : List Visit) → g.first ≡ suc first → All (λ v. suc first ≤ v.place) visits
    → passed_all (with_first first q g) visits ≡ with_first first q (passed_all g visits)
unfolding passed_all
passed_all-behind g first q [] next behind = refl
passed_all-behind g first q (v ∷ visits) next behind =
    let here = All-head (λ v. suc first ≤ v.place) v visits behind in
    ap (λ (h : Traffic). passed_all h visits) (passed-behind g first q v (omega (arith, here, next)))
    ∙ passed_all-behind (passed g v) first q visits (passed-first g v ∙ next) (All-tail (λ v. suc first ≤ v.place) v visits behind)

-- ---- what a visit writes

pub map_set : {A B : Type 0} (f : A → B) (xs : List A) (i : ℕ) (x : A) → map f (slice_set xs i x) ≡ slice_set (map f xs) i (f x)
map_set f [] i x = refl
map_set f (z ∷ xs) zero x = refl
map_set f (z ∷ xs) (suc i) x = ap (λ ys. f z ∷ ys) (map_set f xs i x)

pub passed_found : (g : Traffic) (v : Visit) (p : Carried) → slice_get g.packets (v.place - g.first) ≡ Some p → passed g v ≡ passed_by g v (Some p)
unfolding passed
passed_found g v p found = ap (passed_by g v) found

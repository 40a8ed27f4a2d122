-- Two lists that go together, by index.
use Rattle.std.proofs.Common.{◌<◌, List, [], ◌∷◌, ◌++◌, length, length-append, get_or, map, refl, arith}
use Rattle.std.specs.List.{AllZip}
use Rattle.std.proofs.lemmas.Slice.Zip.{AllZip-long}
use Rattle.pcap_capture.specs.Frames.{FrameValue, link_in}
use Rattle.frame_marker.specs.Ports.{seen_by}
use Rattle.frame_marker.specs.declared.sight.Seen.{Seen}
use Rattle.ds_conditioner.specs.Conditionings.{AreMarksOf, AreSeenOf}
use Rattle.ds_conditioner.specs.declared.port.Port.{Port}

-- what goes with an item that stands behind others is there
pub goes_long : {A B : Type 0} (R : A → B → Type 0) (front : List A) (x : A) (back : List A) (ys : List B) → AllZip R (front ++ x ∷ back) ys → length front < length ys
goes_long R front x back ys all = omega (arith, AllZip-long R (front ++ x ∷ back) ys all, length-append front (x ∷ back))

-- and at the same place
pub goes_there : {A B : Type 0} (R : A → B → Type 0) (front : List A) (x : A) (back : List A) (ys : List B) (d : B) → AllZip R (front ++ x ∷ back) ys → R x (get_or ys (length front) d)
goes_there R [] x back [] d all = absurd all
goes_there R [] x back (y ∷ ys) d all = all.0
goes_there R (f ∷ front) x back [] d all = absurd all
goes_there R (f ∷ front) x back (y ∷ ys) d all = goes_there R front x back ys d all.1

-- what goes with what goes with an item
pub goes_on : {A B C : Type 0} (R : A → B → Type 0) (S : B → C → Type 0) (T : A → C → Type 0) → ((x : A) (y : B) (z : C) → R x y → S y z → T x z)
    → (xs : List A) (ys : List B) (zs : List C) → AllZip R xs ys → AllZip S ys zs → AllZip T xs zs
goes_on R S T on [] [] [] r s = tt
goes_on R S T on [] [] (z ∷ zs) r s = absurd s
goes_on R S T on [] (y ∷ ys) zs r s = absurd r
goes_on R S T on (x ∷ xs) [] zs r s = absurd r
goes_on R S T on (x ∷ xs) (y ∷ ys) [] r s = absurd s
goes_on R S T on (x ∷ xs) (y ∷ ys) (z ∷ zs) r s = (on x y z r.0 s.0, goes_on R S T on xs ys zs r.1 s.1)

-- what was seen of frames at a port has their marks
pub are_marked : (p : Port) (frames : List FrameValue) (seen : List Seen) → AreSeenOf p frames seen → AreMarksOf frames seen
are_marked p [] [] all = tt
are_marked p [] (s ∷ seen) all = absurd all
are_marked p (f ∷ frames) [] all = absurd all
are_marked p (f ∷ frames) (s ∷ seen) all = ((link_in f.content, all.0.1), are_marked p frames seen all.1)

-- what a port sees of frames is seen of them
pub seen_all : (p : Port) (frames : List FrameValue) → AreSeenOf p frames (map (λ f. seen_by p.classifier f) frames)
seen_all p [] = tt
seen_all p (f ∷ frames) = ((refl, refl), seen_all p frames)

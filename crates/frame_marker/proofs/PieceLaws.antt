-- What is seen of frames by their places.
use Rattle.std.proofs.Common.{◌≡◌, ℕ, ◌<◌, get_or, List, length, map, Option, Some, sym, ap, ◌∙◌, arith}
use Rattle.std.proofs.lemmas.List.{get_or-map, length-map, same_lists}
use Rattle.pcap_capture.specs.Frames.{FrameValue}
use Rattle.frame_marker.specs.Ports.{PortRules, no_frame, seen_by, seen_there}

-- what is seen of the frames at all places, in their order
pub all_there : (port : PortRules) (frames : List FrameValue) (places : List ℕ)
    → length places ≡ length frames → ((k d : ℕ) → k < length places → get_or places k d ≡ k)
    → map (seen_there port frames) places ≡ map (λ f. seen_by port f) frames
all_there port frames places long counts =
    same_lists (map (seen_there port frames) places) (map (λ f. seen_by port f) frames)
    (length-map places (seen_there port frames) ∙ long ∙ sym (length-map frames (λ f. seen_by port f)))
    (λ k d within.
    let inside : k < length places = omega (arith, length-map places (seen_there port frames)) in
    get_or-map (seen_there port frames) places k 0 d inside
    ∙ ap (seen_there port frames) (counts k 0 inside)
    ∙ sym (get_or-map (λ f. seen_by port f) frames k no_frame d (omega (arith, long))))

-- what is read at once is the same
pub read_same : (o : Option ℕ) (a b : ℕ) → o ≡ Some a → o ≡ Some b → a ≡ b
read_same o a b first second = cc

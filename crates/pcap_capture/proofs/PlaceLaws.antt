-- The parts of a frame.
use Rattle.std.proofs.Common.{◌≡◌, ℕ, List, ◌++◌, take, drop, sym, ◌∙◌, ap}
use Rattle.std.proofs.lemmas.List.{drop-drop, take-append-drop}
use Rattle.pcap_capture.specs.Frames.{frame_at, text_in}
use Rattle.pcap_capture.specs.declared.content.Place.{Place}

-- the parts of a frame are its bytes
pub text_at : (own : List ℕ) (place : Place) → text_in (frame_at own place) ≡ own
text_at own place =
    ap (λ tail. take place.front own ++ (take place.size (drop place.front own) ++ tail)) (sym (drop-drop place.size place.front own))
    ∙ ap (λ behind. take place.front own ++ behind) (take-append-drop place.size (drop place.front own)) ∙ take-append-drop place.front own

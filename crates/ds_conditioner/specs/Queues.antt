-- Pieces that frames are held of, one behind the other.
use Rattle.std.specs.Prelude.{◌≡◌, ◌<◌, List, [], ◌∷◌, ◌++◌, length, All}
use Rattle.ds_conditioner.specs.Helds.{HeldFramesValue, HeldValue}

-- the frames that are held of pieces
abbrev pub held_between : List HeldFramesValue → List HeldValue
held_between [] = []
held_between (piece ∷ pieces) = piece.held ++ held_between pieces

-- Frames are held of each piece behind the first one, and none is behind it where none are held of it.
pub record AreHeld (first : HeldFramesValue) (between : List HeldFramesValue) : Type 0 where
  pub all : All (λ h. 0 < length h.held) between
  pub none : first.held ≡ [] → between ≡ []

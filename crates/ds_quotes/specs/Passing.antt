-- Values of which the lower ones pass a test.
use Rattle.std.specs.Prelude.{◌≡◌, ℕ, ◌<◌, ◌≤◌, Bool, true, false}

-- where a value below a limit passes, so does each one below it
abbrev pub IsDownward : ℕ → (ℕ → Bool) → Type 0
IsDownward limit passes = (value more : ℕ) → value ≤ more → more < limit → passes more ≡ true → passes value ≡ true

-- below a limit, those below a count pass, and no others do
pub record IsPassing (limit : ℕ) (passes : ℕ → Bool) (count : ℕ) : Type 0 where
  pub within : count ≤ limit
  pub below : (value : ℕ) → value < count → passes value ≡ true
  pub above : (value : ℕ) → count ≤ value → value < limit → passes value ≡ false

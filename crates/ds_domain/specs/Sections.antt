-- The entries of a section, one after the other.
use Rattle.std.specs.Prelude.{ℕ, List, [], ◌∷◌, length, nat_lt, Result, Ok}
use Rattle.toml.specs.Data.{Members}
use Rattle.ds_domain_base.specs.declared.fault.DomainFault.{DomainFault}
use Rattle.ds_domain_base.specs.declared.fault.Field.{Field}
use Rattle.ds_domain_base.specs.declared.fault.Kind.TheVariants as kinds
use Rattle.ds_domain_base.specs.declared.fault.Section.TheVariants as sections
use Rattle.ds_domain_text.specs.Steps.{◌>>=◌}
use Rattle.ds_domain.specs.Keys.{fault_here, refused_if}
use Rattle.ds_domain.specs.declared.place.Place.{Place}

-- the top of the text
abbrev pub top : Place
top = record { section = sections.Top; index = 0 }

-- each entry is judged by what those before it made; the first fault ends it
unfoldable pub in_turn : {D : Type 0} → (D → Members → Result D DomainFault) → D → List Members → Result D DomainFault
in_turn with_entry d [] = Ok d
in_turn with_entry d (members ∷ more) = with_entry d members >>= (λ next. in_turn with_entry next more)

-- a section of at most so many entries
unfoldable pub few : Field → ℕ → List Members → Result (Unit {0}) DomainFault
few field most tables = refused_if (nat_lt most (length tables)) (fault_here top kinds.Range field)

-- the entries of a section, which are not looked at where there are too many
unfoldable pub section_in : {D : Type 0} → Field → ℕ
    → (D → Members → Result D DomainFault) → D → List Members → Result D DomainFault
section_in field most with_entry d tables = few field most tables >>= (λ _. in_turn with_entry d tables)

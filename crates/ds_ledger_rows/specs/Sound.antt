-- What holds of a command by the types of its parts, and makes its row that of no other.
use Rattle.std.specs.Prelude.{◌≢◌, ◌<◌, ◌^◌, ℕ, List, All, IfSome, ⊤}
use Rattle.flow_classifier.specs.declared.prefix.Prefix.{Prefix}
use Rattle.flow_classifier.specs.declared.prefix.Prefix.TheVariants.{V4, V6}
use Rattle.ds_domain_base.specs.declared.contract.Contract.{Contract}
use Rattle.ds_broker.specs.declared.command.Command.{Command}
use Rattle.ds_broker.specs.declared.command.Command.TheVariants.{Reserve, Release, Retire}

-- no character is a slash (47)
abbrev pub HasNoSlash : List ℕ → Type 0
HasNoSlash name = All (λ character. character ≢ 47) name

-- an address of IPv6 has 128 bits
abbrev pub IsAddressed : Prefix → Type 0
IsAddressed (V4 p) = ⊤
IsAddressed (V6 p) = p.address < 2 ^ 128

-- the meters' names have no slash, and addresses fit
pub record IsSoundContract (c : Contract) : Type 0 where
  pub meters : All HasNoSlash c.path
  pub source : IfSome c.rule.source IsAddressed
  pub target : IfSome c.rule.target IsAddressed

abbrev pub IsSound : Command → Type 0
IsSound (Reserve contract) = IsSoundContract contract
IsSound (Release id at) = ⊤
IsSound (Retire id moment) = ⊤

-- What a version of a domain's text has.
use Rattle.std.specs.Prelude.{Bool, true, false}
use Rattle.ds_domain_base.specs.declared.parts.Version.{Version}
use Rattle.ds_domain_base.specs.declared.parts.Version.TheVariants.{One, Two, Three}

-- rules may ask for addresses of IPv6, and packets of IPv6 are seen
abbrev pub has_ipv6 : Version → Bool
has_ipv6 One = false
has_ipv6 Two = false
has_ipv6 Three = true

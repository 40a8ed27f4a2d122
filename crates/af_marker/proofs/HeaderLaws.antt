-- What is known of bytes that begin with a header.
use Rattle.std.proofs.Common.{◌≡◌, ℕ, List, Option, None, Some, Ok, refl, ap}
use Rattle.af_marker.specs.Headers.{fault_of, fields_of, header_of, is_verified, unless}
use Rattle.af_marker.specs.declared.ipv4.Ipv4Header.{Ipv4Header}
use Rattle.af_marker.specs.declared.ipv4.HeaderFault.{HeaderFault}

passed_from : (fault : Option HeaderFault) (read h : Ipv4Header) → Ok h ≡ unless fault read → fault ≡ None
passed_from None read h e = refl
passed_from (Some fault) read h e = cc

read_from : (fault : Option HeaderFault) (read h : Ipv4Header) → Ok h ≡ unless fault read → h ≡ read
read_from None read h e = cc
read_from (Some fault) read h e = cc

-- a header that is answered passes all tests
pub passed : (bytes : List ℕ) (h : Ipv4Header) → Ok h ≡ header_of bytes → fault_of bytes ≡ None
unfolding header_of
passed bytes h e = passed_from (fault_of bytes) (fields_of bytes) h e

-- and is what the bytes say
pub is_fields : (bytes : List ℕ) (h : Ipv4Header) → Ok h ≡ header_of bytes → h ≡ fields_of bytes
unfolding header_of
is_fields bytes h e = read_from (fault_of bytes) (fields_of bytes) h e

pub verified_of : (bytes : List ℕ) (h : Ipv4Header) → Ok h ≡ header_of bytes → h.verified ≡ is_verified bytes
unfolding fields_of
verified_of bytes h e = ap (λ (x : Ipv4Header). x.verified) (is_fields bytes h e)

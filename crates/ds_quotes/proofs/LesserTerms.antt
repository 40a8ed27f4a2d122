-- Terms with a lower value of a field: traffic keeps no more on them.
use Rattle.std.proofs.Common.{arith, ◌≡◌, ℕ, ◌≤◌, Bool, true, false, Option, None, Some, refl, is_none, option_and_then, option_map, unwrap_or, if◌then◌else◌}
use Rattle.moment_core.specs.declared.colour.Mode.{Mode}
use Rattle.srtcm_core.specs.declared.parameters.SrTcmParameters.{SrTcmParameters}
use Rattle.trtcm_core.specs.declared.parameters.TrTcmParameters.{TrTcmParameters}
use Rattle.rfc4115_core.specs.declared.parameters.Rfc4115Parameters.{Rfc4115Parameters}
use Rattle.meter_book_base.specs.AnyMeter.{fault_of}
use Rattle.ds_domain_base.specs.Envelopes.{all_output, green_output, output_in}
use Rattle.ds_domain_base.specs.Parameters.{Parameters}
use Rattle.ds_domain_base.specs.Parameters.TheVariants.{SrTcm, TrTcm, Rfc4115}
use Rattle.ds_domain_base.specs.Sent.{has_peak}
use Rattle.ds_domain_base.specs.declared.parts.Version.{Version}
use Rattle.ds_domain_base.specs.declared.parts.Version.TheVariants.{One, Two, Three}
use Rattle.ds_domain_base.specs.declared.terms.Peak.{Peak}
use Rattle.ds_domain_base.specs.declared.terms.Profile.{Profile}
use Rattle.ds_domain_base.specs.declared.terms.Terms.{Terms}
use Rattle.ds_domain_base.specs.declared.terms.Terms.TheVariants.{Trusted, Policed}
use Rattle.ds_certificate.specs.Sources.{curve_of, edge_column, excess_profile, source_by}
use Rattle.ds_certificate.proofs.LesserLaws.{IsUnder, KeepsLess, widened-less}
use Rattle.ds_quotes.specs.Fields.{if_sound, terms_with}
use Rattle.ds_quotes.specs.declared.field.Field.{Field}
use Rattle.ds_quotes.specs.declared.field.Field.TheVariants as fields

-- traffic keeps no more on the one terms than on the others, and may send yellow packets on both or on neither
abbrev pub AreLower : Version → ℕ → Terms → Terms → Type 0
AreLower version skew low high = KeepsLess (source_by version skew low) (source_by version skew high) × (has_peak low ≡ has_peak high)

-- ---- what is made of a value that is in its range
twice : {X Y : Type 0} (g : Y → X) (f : ℕ → Y) (b : Bool) (value : ℕ) (x : X) → option_map g (option_map f (if b then Some value else None)) ≡ Some x → x ≡ g (f value)
twice g f true value x is = cc
twice g f false value x is = absurd cc

thrice : {X Y Z : Type 0} (h : Y → X) (g : Z → Y) (f : ℕ → Z) (b : Bool) (value : ℕ) (x : X)
    → option_map h (option_map g (option_map f (if b then Some value else None))) ≡ Some x → x ≡ h (g (f value))
thrice h g f true value x is = cc
thrice h g f false value x is = absurd cc

sound_by : (b : Bool) (mode : Mode) (p : Parameters) (x : Terms) → option_map (λ own. Policed own mode) (if b then Some p else None) ≡ Some x → x ≡ Policed p mode
sound_by true mode p x is = cc
sound_by false mode p x is = absurd cc

policed : {Y : Type 0} (mode : Mode) (g : Y → Parameters) (f : ℕ → Y) (b : Bool) (value : ℕ) (x : Terms)
    → option_map (λ own. Policed own mode) (option_and_then if_sound (option_map g (option_map f (if b then Some value else None)))) ≡ Some x
    → x ≡ Policed (g (f value)) mode
policed mode g f true value x is = sound_by (is_none (fault_of (g (f value)))) mode (g (f value)) x is
policed mode g f false value x is = absurd cc

-- ---- trusted terms
same : (a : Profile) → IsUnder (curve_of a) (curve_of a)
same a = (omega arith, omega arith)

trusted_lower : (version : Version) (skew : ℕ) (a b : Profile) → IsUnder (curve_of a) (curve_of b) → AreLower version skew (Trusted a None) (Trusted b None)
trusted_lower version skew a b low = ((low, (low, (low, tt))), refl)

peaked_lower : (version : Version) (skew : ℕ) (a b : Profile) (p q : Peak) → IsUnder (curve_of a) (curve_of b) → IsUnder (curve_of p.profile) (curve_of q.profile)
    → IsUnder (curve_of (excess_profile p)) (curve_of (excess_profile q)) → AreLower version skew (Trusted a (Some p)) (Trusted b (Some q))
peaked_lower version skew a b p q low lower lowest = ((low, (lower, (lowest, tt))), refl)

-- what yellow packets keep where nothing is said of them alone
excess_lower : (e : Option Profile) (a b : Profile) → IsUnder (curve_of a) (curve_of b) → IsUnder (curve_of (unwrap_or e a)) (curve_of (unwrap_or e b))
excess_lower None a b low = low
excess_lower (Some own) a b low = same own

-- ---- terms that a meter polices
abbrev edge_less : Version → Parameters → Parameters → Type 0
edge_less version p q = IsUnder (output_in (edge_column version) p) (output_in (edge_column version) q)

policed_lower : (version : Version) (skew : ℕ) (p q : Parameters) (mode : Mode) → IsUnder (green_output p) (green_output q) → IsUnder (all_output p) (all_output q)
    → edge_less version p q → AreLower version skew (Policed p mode) (Policed q mode)
policed_lower version skew p q mode green all excess = (
  (
    widened-less (green_output p) (green_output q) skew green,
    (
      widened-less (all_output p) (all_output q) skew all,
      (widened-less (output_in (edge_column version) p) (output_in (edge_column version) q) skew excess, tt),
    ),
  ),
  refl,
)

single_rate_edge : (version : Version) (p q : SrTcmParameters) → p.committed_rate ≤ q.committed_rate → p.committed_burst ≤ q.committed_burst → p.excess_burst ≤ q.excess_burst
    → edge_less version (SrTcm p) (SrTcm q)
single_rate_edge One p q rate burst excess = (rate, omega (arith, burst, excess))
single_rate_edge Two p q rate burst excess = (rate, omega (arith, burst, excess))
single_rate_edge Three p q rate burst excess = (rate, omega (arith, burst, excess))

single_rate_lower : (version : Version) (skew : ℕ) (p q : SrTcmParameters) (mode : Mode) → p.committed_rate ≤ q.committed_rate → p.committed_burst ≤ q.committed_burst
    → p.excess_burst ≤ q.excess_burst → AreLower version skew (Policed (SrTcm p) mode) (Policed (SrTcm q) mode)
single_rate_lower version skew p q mode rate burst excess =
    policed_lower version skew (SrTcm p) (SrTcm q) mode (rate, omega (arith, burst)) (rate, omega (arith, burst, excess)) (single_rate_edge version p q rate burst excess)

two_rate_edge : (version : Version) (p q : TrTcmParameters) → p.peak_rate ≤ q.peak_rate → p.peak_burst ≤ q.peak_burst → edge_less version (TrTcm p) (TrTcm q)
two_rate_edge One p q rate burst = (rate, omega (arith, burst))
two_rate_edge Two p q rate burst = (rate, omega (arith, burst))
two_rate_edge Three p q rate burst = (rate, omega (arith, burst))

two_rate_lower : (version : Version) (skew : ℕ) (p q : TrTcmParameters) (mode : Mode) → p.committed_rate ≤ q.committed_rate → p.committed_burst ≤ q.committed_burst
    → p.peak_rate ≤ q.peak_rate → p.peak_burst ≤ q.peak_burst → AreLower version skew (Policed (TrTcm p) mode) (Policed (TrTcm q) mode)
two_rate_lower version skew p q mode rate burst peak_rate peak_burst =
    policed_lower version skew (TrTcm p) (TrTcm q) mode (rate, omega (arith, burst)) (peak_rate, omega (arith, peak_burst)) (two_rate_edge version p q peak_rate peak_burst)

separate_rates_edge : (version : Version) (p q : Rfc4115Parameters) → p.committed_rate ≤ q.committed_rate → p.committed_burst ≤ q.committed_burst → p.excess_rate ≤ q.excess_rate
    → p.excess_burst ≤ q.excess_burst → edge_less version (Rfc4115 p) (Rfc4115 q)
separate_rates_edge One p q rate burst excess_rate excess_burst = (omega (arith, rate, excess_rate), omega (arith, burst, excess_burst))
separate_rates_edge Two p q rate burst excess_rate excess_burst = (excess_rate, omega (arith, excess_burst))
separate_rates_edge Three p q rate burst excess_rate excess_burst = (excess_rate, omega (arith, excess_burst))

separate_rates_lower : (version : Version) (skew : ℕ) (p q : Rfc4115Parameters) (mode : Mode) → p.committed_rate ≤ q.committed_rate → p.committed_burst ≤ q.committed_burst
    → p.excess_rate ≤ q.excess_rate → p.excess_burst ≤ q.excess_burst → AreLower version skew (Policed (Rfc4115 p) mode) (Policed (Rfc4115 q) mode)
separate_rates_lower version skew p q mode rate burst excess_rate excess_burst =
    policed_lower version skew (Rfc4115 p) (Rfc4115 q) mode (rate, omega (arith, burst)) (omega (arith, rate, excess_rate), omega (arith, burst, excess_burst))
    (separate_rates_edge version p q rate burst excess_rate excess_burst)

-- ---- field by field
abbrev pub Lowers : Field → Terms → Type 0
Lowers field terms = (version : Version) (skew value more : ℕ) (low high : Terms) → value ≤ more → terms_with field value terms ≡ Some low
    → terms_with field more terms ≡ Some high → AreLower version skew low high

trusted_committed_rate : (a : Profile) (peak : Option Peak) → Lowers fields.CommittedRate (Trusted a peak)
unfolding terms_with
trusted_committed_rate a None version skew value more low high order is are =
    let make : ℕ → Profile = λ changed. record a { rate = changed } in
    let terms : Profile → Terms = λ own. Trusted own None in
    rw (twice terms make _ value low is) (rw (twice terms make _ more high are) (trusted_lower version skew (make value) (make more) (order, omega arith)))
trusted_committed_rate a (Some p) version skew value more low high order is are =
    let make : ℕ → Profile = λ changed. record a { rate = changed } in
    let terms : Profile → Terms = λ own. Trusted own (Some p) in
    rw (twice terms make _ value low is)
    (rw (twice terms make _ more high are) (peaked_lower version skew (make value) (make more) p p (order, omega arith) (same p.profile) (same (excess_profile p))))

trusted_peak_rate : (a : Profile) (peak : Option Peak) → Lowers fields.PeakRate (Trusted a peak)
unfolding terms_with
trusted_peak_rate a None version skew value more low high order is are = absurd cc
trusted_peak_rate a (Some p) version skew value more low high order is are =
    let make : ℕ → Profile = λ changed. record p.profile { rate = changed } in
    let peak : Profile → Peak = λ own. record p { profile = own } in
    let terms : Peak → Terms = λ own. Trusted a (Some own) in
    rw (thrice terms peak make _ value low is)
    (rw (thrice terms peak make _ more high are)
    (peaked_lower version skew a a (peak (make value)) (peak (make more)) (same a) (order, omega arith) (excess_lower p.excess (make value) (make more) (order, omega arith))))

trusted_excess_rate_by : (a own : Profile) (excess : Option Profile) → Lowers fields.ExcessRate (Trusted a (Some (record { profile = own; excess = excess })))
unfolding terms_with
trusted_excess_rate_by a own None version skew value more low high order is are = absurd cc
trusted_excess_rate_by a own (Some e) version skew value more low high order is are =
    let make : ℕ → Profile = λ changed. record e { rate = changed } in
    let peak : Profile → Peak = λ other. record { profile = own; excess = Some other } in
    let terms : Peak → Terms = λ other. Trusted a (Some other) in
    rw (thrice terms peak make _ value low is)
    (rw (thrice terms peak make _ more high are)
    (peaked_lower version skew a a (peak (make value)) (peak (make more)) (same a) (same own) (order, omega arith)))

trusted_excess_rate : (a : Profile) (peak : Option Peak) → Lowers fields.ExcessRate (Trusted a peak)
unfolding terms_with
trusted_excess_rate a None version skew value more low high order is are = absurd cc
trusted_excess_rate a (Some p) version skew value more low high order is are = trusted_excess_rate_by a p.profile p.excess version skew value more low high order is are

trusted_committed_burst : (a : Profile) (peak : Option Peak) → Lowers fields.CommittedBurst (Trusted a peak)
unfolding terms_with
trusted_committed_burst a None version skew value more low high order is are =
    let make : ℕ → Profile = λ changed. record a { burst = changed } in
    let terms : Profile → Terms = λ own. Trusted own None in
    rw (twice terms make _ value low is) (rw (twice terms make _ more high are) (trusted_lower version skew (make value) (make more) (omega arith, order)))
trusted_committed_burst a (Some p) version skew value more low high order is are =
    let make : ℕ → Profile = λ changed. record a { burst = changed } in
    let terms : Profile → Terms = λ own. Trusted own (Some p) in
    rw (twice terms make _ value low is)
    (rw (twice terms make _ more high are) (peaked_lower version skew (make value) (make more) p p (omega arith, order) (same p.profile) (same (excess_profile p))))

trusted_peak_burst : (a : Profile) (peak : Option Peak) → Lowers fields.PeakBurst (Trusted a peak)
unfolding terms_with
trusted_peak_burst a None version skew value more low high order is are = absurd cc
trusted_peak_burst a (Some p) version skew value more low high order is are =
    let make : ℕ → Profile = λ changed. record p.profile { burst = changed } in
    let peak : Profile → Peak = λ own. record p { profile = own } in
    let terms : Peak → Terms = λ own. Trusted a (Some own) in
    rw (thrice terms peak make _ value low is)
    (rw (thrice terms peak make _ more high are)
    (peaked_lower version skew a a (peak (make value)) (peak (make more)) (same a) (omega arith, order) (excess_lower p.excess (make value) (make more) (omega arith, order))))

trusted_excess_burst_by : (a own : Profile) (excess : Option Profile) → Lowers fields.ExcessBurst (Trusted a (Some (record { profile = own; excess = excess })))
unfolding terms_with
trusted_excess_burst_by a own None version skew value more low high order is are = absurd cc
trusted_excess_burst_by a own (Some e) version skew value more low high order is are =
    let make : ℕ → Profile = λ changed. record e { burst = changed } in
    let peak : Profile → Peak = λ other. record { profile = own; excess = Some other } in
    let terms : Peak → Terms = λ other. Trusted a (Some other) in
    rw (thrice terms peak make _ value low is)
    (rw (thrice terms peak make _ more high are)
    (peaked_lower version skew a a (peak (make value)) (peak (make more)) (same a) (same own) (omega arith, order)))

trusted_excess_burst : (a : Profile) (peak : Option Peak) → Lowers fields.ExcessBurst (Trusted a peak)
unfolding terms_with
trusted_excess_burst a None version skew value more low high order is are = absurd cc
trusted_excess_burst a (Some p) version skew value more low high order is are = trusted_excess_burst_by a p.profile p.excess version skew value more low high order is are

single_rate_committed_rate : (p : SrTcmParameters) (mode : Mode) → Lowers fields.CommittedRate (Policed (SrTcm p) mode)
unfolding terms_with
single_rate_committed_rate p mode version skew value more low high order is are =
    let make : ℕ → SrTcmParameters = λ changed. record p { committed_rate = changed } in
    rw (policed mode SrTcm make _ value low is) (rw (policed mode SrTcm make _ more high are) (single_rate_lower version skew (make value) (make more) mode order (omega arith) (omega arith)))

single_rate_committed_burst : (p : SrTcmParameters) (mode : Mode) → Lowers fields.CommittedBurst (Policed (SrTcm p) mode)
unfolding terms_with
single_rate_committed_burst p mode version skew value more low high order is are =
    let make : ℕ → SrTcmParameters = λ changed. record p { committed_burst = changed } in
    rw (policed mode SrTcm make _ value low is) (rw (policed mode SrTcm make _ more high are) (single_rate_lower version skew (make value) (make more) mode (omega arith) order (omega arith)))

single_rate_excess_burst : (p : SrTcmParameters) (mode : Mode) → Lowers fields.ExcessBurst (Policed (SrTcm p) mode)
unfolding terms_with
single_rate_excess_burst p mode version skew value more low high order is are =
    let make : ℕ → SrTcmParameters = λ changed. record p { excess_burst = changed } in
    rw (policed mode SrTcm make _ value low is) (rw (policed mode SrTcm make _ more high are) (single_rate_lower version skew (make value) (make more) mode (omega arith) (omega arith) order))

two_rate_committed_rate : (p : TrTcmParameters) (mode : Mode) → Lowers fields.CommittedRate (Policed (TrTcm p) mode)
unfolding terms_with
two_rate_committed_rate p mode version skew value more low high order is are =
    let make : ℕ → TrTcmParameters = λ changed. record p { committed_rate = changed } in
    rw (policed mode TrTcm make _ value low is) (rw (policed mode TrTcm make _ more high are) (two_rate_lower version skew (make value) (make more) mode order (omega arith) (omega arith) (omega arith)))

two_rate_committed_burst : (p : TrTcmParameters) (mode : Mode) → Lowers fields.CommittedBurst (Policed (TrTcm p) mode)
unfolding terms_with
two_rate_committed_burst p mode version skew value more low high order is are =
    let make : ℕ → TrTcmParameters = λ changed. record p { committed_burst = changed } in
    rw (policed mode TrTcm make _ value low is) (rw (policed mode TrTcm make _ more high are) (two_rate_lower version skew (make value) (make more) mode (omega arith) order (omega arith) (omega arith)))

two_rate_peak_rate : (p : TrTcmParameters) (mode : Mode) → Lowers fields.PeakRate (Policed (TrTcm p) mode)
unfolding terms_with
two_rate_peak_rate p mode version skew value more low high order is are =
    let make : ℕ → TrTcmParameters = λ changed. record p { peak_rate = changed } in
    rw (policed mode TrTcm make _ value low is) (rw (policed mode TrTcm make _ more high are) (two_rate_lower version skew (make value) (make more) mode (omega arith) (omega arith) order (omega arith)))

two_rate_peak_burst : (p : TrTcmParameters) (mode : Mode) → Lowers fields.PeakBurst (Policed (TrTcm p) mode)
unfolding terms_with
two_rate_peak_burst p mode version skew value more low high order is are =
    let make : ℕ → TrTcmParameters = λ changed. record p { peak_burst = changed } in
    rw (policed mode TrTcm make _ value low is) (rw (policed mode TrTcm make _ more high are) (two_rate_lower version skew (make value) (make more) mode (omega arith) (omega arith) (omega arith) order))

separate_rates_committed_rate : (p : Rfc4115Parameters) (mode : Mode) → Lowers fields.CommittedRate (Policed (Rfc4115 p) mode)
unfolding terms_with
separate_rates_committed_rate p mode version skew value more low high order is are =
    let make : ℕ → Rfc4115Parameters = λ changed. record p { committed_rate = changed } in
    rw (policed mode Rfc4115 make _ value low is) (rw (policed mode Rfc4115 make _ more high are) (separate_rates_lower version skew (make value) (make more) mode order (omega arith) (omega arith) (omega arith)))

separate_rates_committed_burst : (p : Rfc4115Parameters) (mode : Mode) → Lowers fields.CommittedBurst (Policed (Rfc4115 p) mode)
unfolding terms_with
separate_rates_committed_burst p mode version skew value more low high order is are =
    let make : ℕ → Rfc4115Parameters = λ changed. record p { committed_burst = changed } in
    rw (policed mode Rfc4115 make _ value low is) (rw (policed mode Rfc4115 make _ more high are) (separate_rates_lower version skew (make value) (make more) mode (omega arith) order (omega arith) (omega arith)))

separate_rates_excess_rate : (p : Rfc4115Parameters) (mode : Mode) → Lowers fields.ExcessRate (Policed (Rfc4115 p) mode)
unfolding terms_with
separate_rates_excess_rate p mode version skew value more low high order is are =
    let make : ℕ → Rfc4115Parameters = λ changed. record p { excess_rate = changed } in
    rw (policed mode Rfc4115 make _ value low is) (rw (policed mode Rfc4115 make _ more high are) (separate_rates_lower version skew (make value) (make more) mode (omega arith) (omega arith) order (omega arith)))

separate_rates_excess_burst : (p : Rfc4115Parameters) (mode : Mode) → Lowers fields.ExcessBurst (Policed (Rfc4115 p) mode)
unfolding terms_with
separate_rates_excess_burst p mode version skew value more low high order is are =
    let make : ℕ → Rfc4115Parameters = λ changed. record p { excess_burst = changed } in
    rw (policed mode Rfc4115 make _ value low is) (rw (policed mode Rfc4115 make _ more high are) (separate_rates_lower version skew (make value) (make more) mode (omega arith) (omega arith) (omega arith) order))

-- terms with a lower value of a field
pub terms-lower : (field : Field) (terms : Terms) → Lowers field terms
unfolding terms_with
terms-lower fields.CommittedRate (Trusted a peak) version skew value more low high order is are = trusted_committed_rate a peak version skew value more low high order is are
terms-lower fields.CommittedBurst (Trusted a peak) version skew value more low high order is are = trusted_committed_burst a peak version skew value more low high order is are
terms-lower fields.PeakRate (Trusted a peak) version skew value more low high order is are = trusted_peak_rate a peak version skew value more low high order is are
terms-lower fields.PeakBurst (Trusted a peak) version skew value more low high order is are = trusted_peak_burst a peak version skew value more low high order is are
terms-lower fields.ExcessRate (Trusted a peak) version skew value more low high order is are = trusted_excess_rate a peak version skew value more low high order is are
terms-lower fields.ExcessBurst (Trusted a peak) version skew value more low high order is are = trusted_excess_burst a peak version skew value more low high order is are
terms-lower fields.CommittedRate (Policed (SrTcm p) mode) version skew value more low high order is are = single_rate_committed_rate p mode version skew value more low high order is are
terms-lower fields.CommittedBurst (Policed (SrTcm p) mode) version skew value more low high order is are = single_rate_committed_burst p mode version skew value more low high order is are
terms-lower fields.PeakRate (Policed (SrTcm p) mode) version skew value more low high order is are = absurd cc
terms-lower fields.PeakBurst (Policed (SrTcm p) mode) version skew value more low high order is are = absurd cc
terms-lower fields.ExcessRate (Policed (SrTcm p) mode) version skew value more low high order is are = absurd cc
terms-lower fields.ExcessBurst (Policed (SrTcm p) mode) version skew value more low high order is are = single_rate_excess_burst p mode version skew value more low high order is are
terms-lower fields.CommittedRate (Policed (TrTcm p) mode) version skew value more low high order is are = two_rate_committed_rate p mode version skew value more low high order is are
terms-lower fields.CommittedBurst (Policed (TrTcm p) mode) version skew value more low high order is are = two_rate_committed_burst p mode version skew value more low high order is are
terms-lower fields.PeakRate (Policed (TrTcm p) mode) version skew value more low high order is are = two_rate_peak_rate p mode version skew value more low high order is are
terms-lower fields.PeakBurst (Policed (TrTcm p) mode) version skew value more low high order is are = two_rate_peak_burst p mode version skew value more low high order is are
terms-lower fields.ExcessRate (Policed (TrTcm p) mode) version skew value more low high order is are = absurd cc
terms-lower fields.ExcessBurst (Policed (TrTcm p) mode) version skew value more low high order is are = absurd cc
terms-lower fields.CommittedRate (Policed (Rfc4115 p) mode) version skew value more low high order is are = separate_rates_committed_rate p mode version skew value more low high order is are
terms-lower fields.CommittedBurst (Policed (Rfc4115 p) mode) version skew value more low high order is are = separate_rates_committed_burst p mode version skew value more low high order is are
terms-lower fields.PeakRate (Policed (Rfc4115 p) mode) version skew value more low high order is are = absurd cc
terms-lower fields.PeakBurst (Policed (Rfc4115 p) mode) version skew value more low high order is are = absurd cc
terms-lower fields.ExcessRate (Policed (Rfc4115 p) mode) version skew value more low high order is are = separate_rates_excess_rate p mode version skew value more low high order is are
terms-lower fields.ExcessBurst (Policed (Rfc4115 p) mode) version skew value more low high order is are = separate_rates_excess_burst p mode version skew value more low high order is are

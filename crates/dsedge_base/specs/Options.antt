-- What the options of a command say, by the texts that they were given.
use Rattle.std.specs.Prelude.{ℕ, ◌-◌, ◌^◌, Bool, true, false, ◌&&◌, ◌||◌, nat_le, List, codes, Option, None, Some, is_some, if◌then◌else◌, bytes_eq}
use Rattle.dsedge_base.specs.declared.work.GivenPort.{GivenPort}
use Rattle.device_core.specs.declared.device.Device.{Device}
use Rattle.device_core.specs.declared.device.Device.TheVariants.{Police, RteMeter}
use Rattle.line_text.specs.Numbers.{number_of}
use Rattle.moment_core.specs.declared.colour.Mode.{Mode}
use Rattle.moment_core.specs.declared.colour.Mode.TheVariants.{Blind, Aware}
use Rattle.meter_book_base.specs.AnyMeter.{fault_of, opening_of}
use Rattle.meter_book_base.specs.declared.any_meter.AnyMeter.{AnyMeter}
use Rattle.meter_book_base.specs.declared.any_meter.Parameters.{Parameters}
use Rattle.meter_book_base.specs.declared.any_meter.Parameters.TheVariants as parameters
use Rattle.ds_broker.specs.Books.{Limits}
use Rattle.ds_quotes.specs.Words.{field_named}
use Rattle.ds_quotes.specs.declared.asked.Asked.{Asked}
use Rattle.ds_quotes.specs.declared.asked.Asked.TheVariants as asks
use Rattle.rfc4115_core.specs.declared.parameters.Rfc4115Parameters.{Rfc4115Parameters}
use Rattle.srtcm_core.specs.declared.parameters.SrTcmParameters.{SrTcmParameters}
use Rattle.trtcm_core.specs.declared.parameters.TrTcmParameters.{TrTcmParameters}

-- the text that an option was given, by the option's name
abbrev pub Given : Type 0
Given = List ℕ → Option (List ℕ)

infixl 10 ◌>>=◌
abbrev pub ◌>>=◌ : {A B : Type 0} → Option A → (A → Option B) → Option B
None >>= f = None
(Some a) >>= f = f a

-- a number from `least` to `most`
abbrev pub within : ℕ → ℕ → ℕ → Option ℕ
within least most n = if nat_le least n && nat_le n most then Some n else None

-- the number from `least` to `most` that 1 to 20 decimal digits say
unfoldable pub number_within : ℕ → ℕ → List ℕ → Option ℕ
number_within least most text = number_of (2 ^ 64 - 1) text >>= within least most

-- bits per second, 1 to 10^13
abbrev pub rate_said : List ℕ → Option ℕ
rate_said = number_within 1 (10 ^ 13)

-- bytes, below 2^32
abbrev pub burst_said : List ℕ → Option ℕ
burst_said = number_within 0 (2 ^ 32 - 1)

-- bytes that an envelope may hold at once, at most 10^15
abbrev pub envelope_burst_said : List ℕ → Option ℕ
envelope_burst_said = number_within 0 (10 ^ 15)

-- nanoseconds, below 2^63
abbrev pub moment_said : List ℕ → Option ℕ
moment_said = number_within 0 (2 ^ 63 - 1)

abbrev pub mode_said : List ℕ → Option Mode
mode_said text =
    if bytes_eq text (codes "blind") then Some Blind
    else if bytes_eq text (codes "aware") then Some Aware
    else None

-- the moment at which a meter begins: 0 where none is given
abbrev pub origin_said : Option (List ℕ) → Option ℕ
origin_said None = Some 0
origin_said (Some text) = moment_said text

abbrev pub is_given : Given → List ℕ → Bool
is_given given name = is_some (given name)

-- whether a flag is given
abbrev pub is_set : Option (List ℕ) → Bool
is_set None = false
is_set (Some text) = bytes_eq text (codes "true")

-- the rate that an option gives
abbrev pub rate_given : Given → List ℕ → Option ℕ
rate_given given name = given name >>= rate_said

-- the burst that an option gives
abbrev pub burst_given : Given → List ℕ → Option ℕ
burst_given given name = given name >>= burst_said

-- the parameters of a single-rate meter (RFC 2697 section 2), with no option of another kind beside them
unfoldable pub single_rate_given : Given → Option SrTcmParameters
single_rate_given given =
    if is_given given (codes "pir") || (is_given given (codes "pbs") || is_given given (codes "eir")) then None else do
      cir ← rate_given given (codes "cir")
      cbs ← burst_given given (codes "cbs")
      ebs ← burst_given given (codes "ebs")
      Some (record { committed_rate = cir; committed_burst = cbs; excess_burst = ebs })

-- the parameters of a two-rate meter (RFC 2698 section 2), likewise
unfoldable pub two_rate_given : Given → Option TrTcmParameters
two_rate_given given = if is_given given (codes "eir") || is_given given (codes "ebs") then None else do
  cir ← rate_given given (codes "cir")
  cbs ← burst_given given (codes "cbs")
  pir ← rate_given given (codes "pir")
  pbs ← burst_given given (codes "pbs")
  Some (record { committed_rate = cir; committed_burst = cbs; peak_rate = pir; peak_burst = pbs })

-- the parameters of a meter of two separate rates (RFC 4115), likewise
unfoldable pub separate_rates_given : Given → Option Rfc4115Parameters
separate_rates_given given = if is_given given (codes "pir") || is_given given (codes "pbs") then None else do
  cir ← rate_given given (codes "cir")
  cbs ← burst_given given (codes "cbs")
  eir ← rate_given given (codes "eir")
  ebs ← burst_given given (codes "ebs")
  Some (record { committed_rate = cir; committed_burst = cbs; excess_rate = eir; excess_burst = ebs })

-- the parameters of a meter of the kind that is named
abbrev pub parameters_given : List ℕ → Given → Option Parameters
parameters_given kind given =
    if bytes_eq kind (codes "srtcm") then single_rate_given given >>= (λ p. Some (parameters.SrTcm p))
    else if bytes_eq kind (codes "trtcm") then two_rate_given given >>= (λ p. Some (parameters.TrTcm p))
    else if bytes_eq kind (codes "rfc4115") then separate_rates_given given >>= (λ p. Some (parameters.Rfc4115 p))
    else None

-- the meter of parameters that are those of one
unfoldable pub opened : Parameters → Mode → ℕ → Option AnyMeter
opened p mode origin = if is_some (fault_of p) then None else Some (opening_of p mode origin)

-- the meter that the options of `meter` ask for
unfoldable pub meter_given : Given → Option AnyMeter
meter_given given = do
  kind ← given (codes "kind")
  mode ← given (codes "mode") >>= mode_said
  origin ← origin_said (given (codes "origin"))
  p ← parameters_given kind given
  opened p mode origin

-- the rate and the burst that the options of `envelope` ask for
unfoldable pub envelope_given : Given → Option (ℕ × ℕ)
envelope_given given = do
  rate ← rate_given given (codes "rate")
  burst ← given (codes "burst") >>= envelope_burst_said
  Some (rate, burst)

-- the files of a domain and of a certificate
unfoldable pub table_given : Given → Option (List ℕ × List ℕ)
table_given given = do
  domain ← given (codes "domain")
  certificate ← given (codes "certificate")
  Some (domain, certificate)

-- what a quote asks for: the greatest value of the rate or burst that a word names, or how many fit, one of them
abbrev pub asked_by : Option (List ℕ) → Bool → Option Asked
asked_by (Some word) false = field_named word >>= (λ field. Some (asks.Most field))
asked_by None true = Some asks.Count
asked_by (Some word) true = None
asked_by None false = None

abbrev pub asked_given : Given → Option Asked
asked_given given = asked_by (given (codes "most")) (is_set (given (codes "count")))

-- the file of a domain, the name of a contract, and what is asked for of it
unfoldable pub quote_given : Given → Option (List ℕ × List ℕ × Asked)
quote_given given = do
  domain ← given (codes "domain")
  contract ← given (codes "contract")
  asked ← asked_given given
  Some (domain, contract, asked)

-- the device that a word names
abbrev pub device_said : List ℕ → Option Device
device_said text =
    if bytes_eq text (codes "tc") then Some Police
    else if bytes_eq text (codes "dpdk") then Some RteMeter
    else None

-- the file of a domain, the name of a meter, and the device that is to be set to it
unfoldable pub export_given : Given → Option (List ℕ × List ℕ × Device)
export_given given = do
  domain ← given (codes "domain")
  meter ← given (codes "meter")
  device ← given (codes "to") >>= device_said
  Some (domain, meter, device)

-- workers, 1 to 64
abbrev pub workers_said : List ℕ → Option ℕ
workers_said = number_within 1 64

-- how many workers are asked for: none where it is left to the program
abbrev pub workers_asked : Option (List ℕ) → Option (Option ℕ)
workers_asked None = Some None
workers_asked (Some text) = workers_said text >>= (λ workers. Some (Some workers))

-- how many workers the options of `mark` ask for, likewise
abbrev pub workers_given : Given → Option (Option ℕ)
workers_given given = workers_asked (given (codes "workers"))

-- how many contracts a book holds, 1 to 65,536: 4,096 where no text says it
abbrev pub contracts_asked : Option (List ℕ) → Option ℕ
contracts_asked None = Some 4096
contracts_asked (Some text) = number_within 1 65536 text

-- how many commands a book accepts, 1 to 2^24: 65,536 where no text says it
abbrev pub commands_asked : Option (List ℕ) → Option ℕ
commands_asked None = Some 65536
commands_asked (Some text) = number_within 1 (2 ^ 24) text

-- the file of a domain whose contracts are sold, how much its book takes, and the file that keeps it, if one does
unfoldable pub drive_given : Given → Option (List ℕ × Limits × Option (List ℕ))
drive_given given = do
  domain ← given (codes "domain")
  contracts ← contracts_asked (given (codes "contracts"))
  commands ← commands_asked (given (codes "commands"))
  Some (domain, record { table = contracts; history = commands }, given (codes "book"))

-- a port of a domain, and perhaps one contract there; none where neither is given, and nothing else
abbrev pub place_of : Option (List ℕ) → Option (List ℕ) → Option (List ℕ) → Option (Option GivenPort)
place_of None None None = Some None
place_of (Some domain) (Some port) contract =
    Some (Some (record { domain = domain; port = port; contract = contract }))
place_of (Some domain) None contract = None
place_of None (Some port) contract = None
place_of None None (Some contract) = None

-- the port whose packets the words of `arrivals` ask for
abbrev pub place_given : Given → Option (Option GivenPort)
place_given given = place_of (given (codes "domain")) (given (codes "port")) (given (codes "contract"))

-- whether red frames are kept, or dropped
abbrev pub red_said : List ℕ → Option Bool
red_said text =
    if bytes_eq text (codes "keep") then Some true
    else if bytes_eq text (codes "drop") then Some false
    else None

-- the port of a marking, how many workers mark, if that is said, and whether it keeps red frames
unfoldable pub marking_given : Given → Option (List ℕ × Option ℕ × Bool)
marking_given given = do
  port ← given (codes "port")
  workers ← workers_given given
  keeps_red ← given (codes "red") >>= red_said
  Some (port, workers, keeps_red)

-- The numbers of the faults of a certificate.
use Rattle.std.specs.Prelude.{ℕ}
use Rattle.ds_certificate.specs.declared.fault.CertificateFault.{CertificateFault}
use Rattle.ds_certificate.specs.declared.fault.CertificateFault.TheVariants as faults

abbrev pub fault_code : CertificateFault → ℕ
fault_code faults.Text = 1
fault_code faults.Shape = 2
fault_code faults.Range = 3
fault_code faults.NoMemory = 4

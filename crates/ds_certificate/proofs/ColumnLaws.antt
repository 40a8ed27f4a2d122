-- What holds in each column.
use Rattle.moment_core.specs.declared.column.Column.{Column}
use Rattle.moment_core.specs.declared.column.Column.TheVariants.{Green, All, Excess}
use Rattle.ds_certificate.specs.Columns.{InEach}

pub in_column : (P : Column → Type 0) → InEach P → (column : Column) → P column
in_column P each Green = each.0
in_column P each All = each.1.0
in_column P each Excess = each.1.1.0

pub each_of : (P : Column → Type 0) → ((column : Column) → P column) → InEach P
each_of P every = (every Green, (every All, (every Excess, tt)))

-- The sections as the code holds them.
use Rattle.std.specs.Prelude.{map}
use Rattle.toml.specs.View.{table_view}
use Rattle.ds_domain.specs.DomainTexts.{SectionTables}
use Rattle.ds_domain.specs.declared.parsing.Sections.{Sections}

abbrev pub tables_of : Sections → SectionTables
tables_of s = record {
  meters = map (λ table. table_view table.now) s.meters.items;
  ports = map (λ table. table_view table.now) s.ports.items;
  links = map (λ table. table_view table.now) s.links.items;
  contracts = map (λ table. table_view table.now) s.contracts.items;
}

use Rattle.std.proofs.Common.{◌≡◌, ℕ, pos, negsuc, List, [], ◌∷◌, map, codes, false, None, refl}
use Rattle.std.specs.List.{range_with_len}
use Rattle.sqlite.specs.declared.types.Value.TheVariants.{Null, Int}
use Rattle.sqlite.specs.Term.{Term, lit, col}
use Rattle.sqlite.specs.Query.{Query, inner, end}
use Rattle.sqlite.specs.Source.TheVariants.{Values}
use Rattle.sqlite.specs.Command.TheVariants.{Insert, Select}
use Rattle.sqlite.specs.Listing.{understood, reads_listing}
use Rattle.sqlite_tied.specs.Compute.{everything}
use Rattle.sqlite.proofs.Callers.{IsPlain, command_of}
use Rattle.ds_ledger_table.specs.Form.{ledger_schema, insert_text, select_text, version_query}

abbrev pub terms : List Term
terms = col 0 0 ∷ lit Null ∷ map (col 0) (range_with_len 1 27)

abbrev pub query : Query
query = record {
  from = inner 0 end;
  filter = [];
  group = None;
  project = col 1 0 ∷ map (col 1) (range_with_len 2 27);
  distinct = false;
  collations = [];
  order = [];
  limit = lit (Int (negsuc 0));
  offset = lit (Int (pos 0));
}

abbrev pub names : List (List ℕ)
names = codes "serial" ∷ codes "done" ∷ codes "id" ∷ codes "moment" ∷ codes "name" ∷ codes "port" ∷ codes "path" ∷ codes "class" ∷ codes "kind" ∷ codes "mode" ∷ codes "cir" ∷ codes "cbs" ∷ codes "pir" ∷ codes "pbs" ∷ codes "eir" ∷ codes "ebs" ∷ codes "since" ∷ codes "until" ∷ codes "src" ∷ codes "src_length" ∷ codes "dst" ∷ codes "dst_length" ∷ codes "protocol" ∷ codes "sport_low" ∷ codes "sport_high" ∷ codes "dport_low" ∷ codes "dport_high" ∷ codes "dscp" ∷ []

pub insert_is : command_of (understood ledger_schema insert_text) ≡ Insert 0 (Values terms 29)
unfolding understood everything
insert_is = refl

pub insert_plain : IsPlain (understood ledger_schema insert_text)
unfolding understood everything
insert_plain = (refl, refl)

pub select_is : (command_of (understood ledger_schema select_text) ≡ Select (record { lets = []; body = query }) names) × (reads_listing ledger_schema select_text ≡ false)
unfolding understood everything
select_is = (refl, refl)

pub select_plain : IsPlain (understood ledger_schema select_text)
unfolding understood everything
select_plain = (refl, refl)

-- what reads the form's version
abbrev pub version_body : Query
version_body = record {
  from = inner 1 end;
  filter = [];
  group = None;
  project = col 1 0 ∷ [];
  distinct = false;
  collations = [];
  order = [];
  limit = lit (Int (negsuc 0));
  offset = lit (Int (pos 0));
}

pub version_is : (command_of (understood ledger_schema version_query) ≡ Select (record { lets = []; body = version_body }) (codes "version" ∷ [])) × (reads_listing ledger_schema version_query ≡ false)
unfolding understood everything
version_is = (refl, refl)

pub version_plain : IsPlain (understood ledger_schema version_query)
unfolding understood everything
version_plain = (refl, refl)

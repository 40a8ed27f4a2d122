-- A domain with one more meter, port or link.
use Rattle.std.proofs.Common.{rules, ◌≡◌, ℕ, ◌<◌, ◌≤◌, Bool, true, false, ◌&&◌, List, [], ◌∷◌, ◌++◌, length, Option, None, Some, is_some, IsTrue, IsSome, if◌then◌else◌, refl, sym, subst, ◌∙◌, ap, arith, bytes_eq, length-append}
use Rattle.std.specs.Cmp.{IsEquivalence}
use Rattle.std.specs.Cmp.Lexicographic.{bytes_decides, nat_list_eq_equiv}
use Rattle.std.specs.Map.{lookup}
use Rattle.std.proofs.lemmas.Bool.{and_from, and_parts, or_parts}
use Rattle.ds_domain_base.specs.declared.parts.Meter.{Meter}
use Rattle.ds_domain_base.specs.declared.parts.Port.{Port}
use Rattle.ds_domain_base.specs.declared.parts.Link.{Link}
use Rattle.ds_domain_base.specs.Domains.{Domain, is_meter, is_port, is_taken, link_of, meter_of, port_of, same_ends, with_link, with_meter, with_port}
use Rattle.ds_domain_base.specs.Kept.{IsDomain}
use Rattle.indexmap.specs.IndexMap.{insert_entry}
use Rattle.ds_domain_base.proofs.EntryLaws.{keys_differ, new_entry, other_key}

none_of : {A : Type 0} (o : Option A) → is_some o ≡ false → o ≡ None
none_of None p = refl
none_of (Some x) p = search (rules, p)

length-push : {A : Type 0} (xs : List A) (x : A) (most : ℕ) → length xs < most → length (xs ++ x ∷ []) ≤ most
length-push xs x most few = rw (length-append xs (x ∷ [])) (omega (arith, few))

-- the entries after the insertion of a name that is not taken are those of the domain with one more
pub meter_added : (now d : Domain) (es : List (List ℕ × Meter)) (name : List ℕ) (meter : Meter) → now ≡ d → is_taken d name ≡ false
    → es ≡ insert_entry bytes_eq now.meters name meter → record now { meters = es } ≡ with_meter d name meter
meter_added now d es name meter same free put =
    ap (λ ms. record now { meters = ms }) (put ∙ new_entry bytes_eq now.meters name meter absent)
    ∙ ap (λ x. with_meter x name meter) same
  where
    absent : lookup (bytes_eq name) now.meters ≡ None
    absent = none_of (meter_of now name) (ap (λ x. is_meter x name) same ∙ (or_parts (is_meter d name) (is_port d name) free).0)

pub port_added : (now d : Domain) (es : List (List ℕ × Port)) (name : List ℕ) (port : Port) → now ≡ d → is_taken d name ≡ false
    → es ≡ insert_entry bytes_eq now.ports name port → record now { ports = es } ≡ with_port d name port
port_added now d es name port same free put =
    ap (λ ps. record now { ports = ps }) (put ∙ new_entry bytes_eq now.ports name port absent)
    ∙ ap (λ x. with_port x name port) same
  where
    absent : lookup (bytes_eq name) now.ports ≡ None
    absent = none_of (port_of now name) (ap (λ x. is_port x name) same ∙ (or_parts (is_meter d name) (is_port d name) free).1)

same_ends_is : (a b : List ℕ × List ℕ) → same_ends a b ≡ true → a ≡ b
same_ends_is a b p = search (rules, (bytes_decides a.0 b.0).0 (and_parts _ _ p).0, (bytes_decides a.1 b.1).0 (and_parts (bytes_eq a.0 b.0) _ p).1)

ends_equiv : IsEquivalence same_ends
ends_equiv = record {
  refl = λ a. and_from _ _ (nat_list_eq_equiv.refl a.0) (nat_list_eq_equiv.refl a.1);
  symm = λ a b. ap (λ x. x && bytes_eq a.1 b.1) (nat_list_eq_equiv.symm a.0 b.0) ∙ ap (λ x. bytes_eq b.0 a.0 && x) (nat_list_eq_equiv.symm a.1 b.1);
  congr = λ a b c same. ap (λ ends. same_ends ends c) (same_ends_is a b same);
}

-- a link that is found is the new one or was there
linked_by : (d : Domain) (from to : List ℕ) (link : Link) (start end : List ℕ) (b : Bool) → same_ends (start, end) (from, to) ≡ b → IsDomain d
    → IsTrue (is_taken d from) → IsTrue (is_meter d to) → IsSome (link_of (with_link d from to link) start end) → IsTrue (is_taken d start) × IsTrue (is_meter d end)
linked_by d from to link start end true p kept taken meter found =
    subst (λ ends. IsTrue (is_taken d ends.0) × IsTrue (is_meter d ends.1)) (sym (same_ends_is (start, end) (from, to) p)) (taken, meter)
linked_by d from to link start end false p kept taken meter found =
    kept.linked start end (ap is_some (sym (other_key (same_ends (start, end)) d.links (from, to) link p)) ∙ found)

IsDomain-with_link : (d : Domain) (from to : List ℕ) (link : Link) → IsDomain d → length d.links < 65536 → IsTrue (is_taken d from) → IsTrue (is_meter d to)
    → is_some (link_of d from to) ≡ false → IsDomain (with_link d from to link)
IsDomain-with_link d from to link kept few taken meter free = record {
  few_meters = kept.few_meters;
  few_ports = kept.few_ports;
  few_links = length-push d.links ((from, to), link) 65536 few;
  named = kept.named;
  meters_differ = kept.meters_differ;
  ports_differ = kept.ports_differ;
  apart = kept.apart;
  links_differ = keys_differ ends_equiv d.links (from, to) link kept.links_differ free;
  linked = λ start end found. linked_by d from to link start end (same_ends (start, end) (from, to)) refl kept taken meter found;
}

link_added : (now d : Domain) (es : List ((List ℕ × List ℕ) × Link)) (from to : List ℕ) (link : Link) → now ≡ d → is_some (link_of d from to) ≡ false
    → es ≡ insert_entry same_ends now.links (from, to) link → record now { links = es } ≡ with_link d from to link
link_added now d es from to link same free put =
    ap (λ ls. record now { links = ls }) (put ∙ new_entry same_ends now.links (from, to) link absent)
    ∙ ap (λ x. with_link x from to link) same
  where
    absent : lookup (same_ends (from, to)) now.links ≡ None
    absent = none_of (link_of now from to) (ap (λ x. is_some (link_of x from to)) same ∙ free)

some_named : (b : Bool) (text name : List ℕ) → (if b then Some text else None) ≡ Some name → (b ≡ true) × (name ≡ text)
some_named true text name p = (refl, search (rules, p))
some_named false text name p = search (rules, p)

-- a link between names that are written so
pub link_put : (now d : Domain) (es : List ((List ℕ × List ℕ) × Link)) (from to start end : List ℕ) (link : Link) → now ≡ d → IsDomain now
    → length now.links < 65536 → (if is_taken d from then Some from else None) ≡ Some start → (if is_meter d to then Some to else None) ≡ Some end
    → is_some (link_of d start end) ≡ false → es ≡ insert_entry same_ends now.links (start, end) link
    → IsDomain (record now { links = es })
    × (record now { links = es } ≡ with_link d from to link)
link_put now d es from to start end link same kept few left right free put = (subst IsDomain (sym added) whole, added)
  where
    first : (is_taken d from ≡ true) × (start ≡ from)
    first = some_named (is_taken d from) from start left

    second : (is_meter d to ≡ true) × (end ≡ to)
    second = some_named (is_meter d to) to end right

    plain : is_some (link_of d from to) ≡ false
    plain = ap (λ a. is_some (link_of d a to)) (sym first.1) ∙ ap (λ b. is_some (link_of d start b)) (sym second.1) ∙ free

    added : record now { links = es } ≡ with_link d from to link
    added = link_added now d es from to link same plain
        (put ∙ ap (λ a. insert_entry same_ends now.links (a, end) link) first.1 ∙ ap (λ b. insert_entry same_ends now.links (from, b) link) second.1)

    whole : IsDomain (with_link d from to link)
    whole = IsDomain-with_link d from to link (subst IsDomain same kept) (subst (λ x. length x.links < 65536) same few) first.0 second.0 plain

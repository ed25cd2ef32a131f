-- A rule gets its entry's id. The rules of an area are linked one after the other, each written back over itself: so the bytes in front are
-- those of the linked rules, the bytes behind are untouched, and a rule is read as it was. `Linking` is what the loop knows, over options or slots.
use Rattle.std.specs.Prelude.{Option, Some, None}
use mathlib.Core.Path.{◌≡◌, refl, sym, ap, ◌∙◌}
use mathlib.Core.Bool.{Bool, true, false, cond}
use mathlib.Core.List.{List}
use Prim.Native.Nat.{ℕ, ◌+◌, ◌*◌, ◌≤◌, ◌<◌}
use native.Mathlib.Omega.{arith}
use lib.Dec.{ltb}
use lib.ListN.{length, get_or}
use Rattle.area.specs.declared.Rule.{Rule}
use Rattle.area.specs.Records.{rule_width, rule_at, rule_bytes, nth_rule}
use Rattle.area.specs.Contents.{contents, rule_format, relaid}
use Rattle.area.proofs.Contents.{rule_sound, contents_read}
use Rattle.area.proofs.Relaid.{rule_local, after_none, after_read, after_next}
use Rattle.area.proofs.Rooms.{record_fits}
use lib.Seq.{sets}
use Rattle.name_map.specs.Map.{Entry, nth, find_entry, found_entry, option_of, id_at, id_of}
use mathlib.Core.Option as M
use mathlib.Core.Option.{some, none}
use Rattle.link.specs.Link.{is_named, with_found, link_rule, link_rules}
use Rattle.link.specs.Matches.{FoundInside, EntriesFound, found_id, link_to}

-- ---- a rule

module _ (es : List Entry) (found : Option ℕ) (x : Rule) where
  pub link_unnamed : is_named x ≡ false → x ≡ link_to es found x
  unfolding link_to
  link_unnamed e = rw e

  pub link_named : is_named x ≡ true → (id : Option ℕ) → option_of id ≡ found_id es found → (r : Rule) → r ≡ with_found (option_of id) x → r ≡ link_to es found x
  unfolding link_to
  link_named h id is r e = rw (h, ← is) e

-- ---- the rules of an area

-- the id of what is found for a name is that of the name
id_found : (es : List Entry) (bytes : List ℕ) → found_id es (found_entry es bytes) ≡ id_of es bytes
unfolding found_entry id_of id_at
id_found es bytes = by (ltb (find_entry es bytes) (length es)) refl
  where
    by : (t : Bool) → ltb (find_entry es bytes) (length es) ≡ t
        → found_id es (cond t (Some (find_entry es bytes)) None) ≡ cond (ltb (find_entry es bytes) (length es)) (some (nth es (find_entry es bytes)).id) none
    by true e = refl
    by false e = rw e

-- a rule is linked by the entry that is found for its name
linked_by : (name : Rule → List ℕ) (es : List Entry) (found : Option ℕ) (x : Rule) → (is_named x ≡ true → found ≡ found_entry es (name x))
    → link_to es found x ≡ link_rule name es x
unfolding link_to link_rule
linked_by name es found x f = by (is_named x) refl
  where
    by : (t : Bool) → is_named x ≡ t → cond t (with_found (found_id es found) x) x ≡ cond t (with_found (id_of es (name x)) x) x
    by true e = ap (λ (i : Option ℕ). with_found (found_id es i) x) (f e) ∙ ap (λ (i : M.Option ℕ). with_found i x) (id_found es (name x))
    by false e = refl

module _ (name : Rule → List ℕ) (es : List Entry) (l : List ℕ) where
  abbrev pub linked_to : ℕ → List ℕ
  linked_to k = relaid rule_format l (link_rules name es (contents rule_format l k))

  pub rules_none : l ≡ linked_to 0
  unfolding link_rules
  rules_none = after_none rule_sound rule_local (link_rule name es) l

  module _ (k count : ℕ) (a : List ℕ) (is : a ≡ linked_to k) (h : k < count) (found : List (Option ℕ))
      (F : EntriesFound name es (contents rule_format l count) count found) (x : Rule) (read : x ≡ rule_at a k) where
    as_before : x ≡ nth_rule (contents rule_format l count) k
    unfolding link_rules
    as_before = read ∙ after_read rule_sound rule_local (link_rule name es) l k a is ∙ sym (contents_read rule_format l count k h)

    by_name : is_named x ≡ true → get_or found k None ≡ found_entry es (name x)
    by_name named =
        F.each k h (ap is_named (sym as_before) ∙ named) ∙ ap (λ (w : Rule). found_entry es (name w)) (sym as_before)

    pub rules_next : count * rule_width ≤ length a → (o : Option ℕ) → o ≡ get_or found k None → (y : Rule) (e : List ℕ)
        → y ≡ link_to es o x → e ≡ sets a (k * rule_width) (rule_bytes y) → e ≡ linked_to (k + 1)
    unfolding link_rules
    rules_next long o same y e z p =
        after_next rule_sound rule_local (link_rule name es) l k a is x y e (record_fits rule_width (length a) count k h long) read
        (z ∙ linked_by name es o x (λ named. same ∙ by_name named)) p

  pub rules_all : (k count : ℕ) (a : List ℕ) → a ≡ linked_to k → count ≤ k → k ≤ count → a ≡ linked_to count
  rules_all k count a is h g =
      let q : k ≡ count = omega (arith, h, g) in
      is ∙ ap linked_to q

-- ---- the loop over the rules, however what was found is kept

module _ (es : List Entry) (l : List ℕ) (count : ℕ) (found : List (Option ℕ)) where
  -- the first k rules are linked, whatever gives the names
  abbrev pub Linking : ℕ → List ℕ → Type 0
  Linking k a = (name : Rule → List ℕ) → EntriesFound name es (contents rule_format l count) count found → a ≡ linked_to name es l k

  pub linking_none : Linking 0 l
  linking_none name F = rules_none name es l

  module _ {k : ℕ} {a : List ℕ} (L : Linking k a) where
    pub linking_next : k < count → count * rule_width ≤ length a → {x : Rule} → x ≡ rule_at a k → {o : Option ℕ} → o ≡ get_or found k None
        → {y : Rule} → y ≡ link_to es o x → {e : List ℕ} → e ≡ sets a (k * rule_width) (rule_bytes y) → Linking (k + 1) e
    linking_next h long {x} read {o} same {y} z {e} p name F = rules_next name es l k count a (L name F) h found F x read long o same y e z p

    pub linking_all : count ≤ k → k ≤ count → Linking count a
    linking_all h g name F = rules_all name es l k count a (L name F) h g

-- what was found for a rule is an entry of the map
pub found_below : (es : List Entry) (found : List (Option ℕ)) → FoundInside es found → (k : ℕ) (o : Option ℕ) → o ≡ get_or found k None
    → (n : ℕ) → length es ≡ n → (j : ℕ) → o ≡ Some j → j < n
found_below es found F k o same n long j is = omega (arith, F.each k j (sym same ∙ is), long)

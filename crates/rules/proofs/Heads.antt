-- A rule's name and its heading: a law for each way through the code, and one over all outcomes of a heading. The last blank stands within the line, so
-- all that is counted from it fits a field.
use mathlib.Core.Path.{◌≡◌, refl, subst, sym, ap, ◌∙◌}
use mathlib.Core.Bool.{Bool, true, false, cond}
use mathlib.Core.List.{List}
use mathlib.Core.Logic.{◌⊎◌, inl, inr}
use Prim.Native.Nat.{ℕ, ◌+◌, ◌-◌, ◌≤◌, ◌<◌}
use native.Mathlib.Omega.{arith}
use borrow.Author.Rules.{rules}
use borrow.Author.Tests.{ltb-true, ltb-false, lt-ltb, ne_eqb}
use lib.Dec.{ltb}
use lib.ListN.{length}
use Rattle.std.proofs.lemmas.Bool.{cond_both, and_parts}
use Rattle.std.specs.Prelude.{Option, Some, None, Result, Ok, Err}
use Rattle.characters.specs.Class.{is_blank}
use Rattle.characters.specs.Walk.{last}
use Rattle.characters.specs.Whitespace.{byte}
use Rattle.text.specs.Range.{part}
use Rattle.text.specs.Scan.{last_blank}
use Rattle.text.proofs.Parts.{part_length, part_first, part_last}
use Rattle.characters.proofs.Lasts.{LastAt, LastNone, last_is}
use Rattle.characters.proofs.Tests.{le_or_lt}
use Rattle.characters.proofs.Walks.{last_none}
use Rattle.area.specs.declared.State.{State}
use Rattle.area.specs.declared.Rule.{Rule}
use Rattle.area.specs.Records.{nth_rule}
use Rattle.fault.specs.declared.Span.{Span}
use Rattle.fault.specs.declared.kinds.LexErrorKind.TheVariants.{MissingSpace, InvalidName}
use Rattle.names.proofs.Distinct.{Unused, name_unused}
use Rattle.fault.specs.declared.kinds.LexError.{LexError}
use Rattle.rules.specs.declared.TargetState.{TargetState}
use Rattle.rules.specs.declared.Target.{Target}
use Rattle.rules.specs.declared.Label.{Label}
use Rattle.rules.specs.declared.Label.TheVariants.{Unnamed, Named, Misnamed}
use Rattle.rules.specs.declared.Head.{Head}
use Rattle.rules.specs.declared.Heading.{Heading}
use Rattle.rules.specs.declared.Heading.TheVariants.{Repeated, Fresh}
use Rattle.rules.specs.Heading.{faulty, target_of, span, equal_quotes, is_no_name, is_name, label_by, label_of, rule_named, head_unnamed, head_named, repeats}
use Rattle.rules.specs.Heading.{heading_named, heading_behind, heading_of, named_field, name_fields}
use Rattle.rules.proofs.Targets.{target_from, target_to}

-- ---- the name

-- whether two bytes are the same quote, by what code has asked of them
module _ (x y : ℕ) where
  pub double_quotes : x ≡ 0x22 → y ≡ 0x22 → equal_quotes x y ≡ true
  unfolding equal_quotes
  double_quotes a b = rw (a, b) refl

  pub single_quotes : x ≡ 0x27 → y ≡ 0x27 → equal_quotes x y ≡ true
  unfolding equal_quotes
  single_quotes a b = rw (a, b) refl

  pub double_opened : x ≡ 0x22 → (y ≡ 0x22 → ⊥) → equal_quotes x y ≡ false
  unfolding equal_quotes
  double_opened a b = rw (a, ne_eqb y 0x22 b) refl

  pub single_opened : x ≡ 0x27 → (y ≡ 0x27 → ⊥) → equal_quotes x y ≡ false
  unfolding equal_quotes
  single_opened a b = rw (a, ne_eqb y 0x27 b) refl

  pub unquoted : (x ≡ 0x22 → ⊥) → (x ≡ 0x27 → ⊥) → equal_quotes x y ≡ false
  unfolding equal_quotes
  unquoted a b = rw (ne_eqb x 0x22 a, ne_eqb x 0x27 b) refl

-- what stands at q is read as a part of the source
module _ (s : List ℕ) (q : Span) (name : List ℕ) (cut : name ≡ part s q.start q.end) (fits : q.end ≤ length s) where
  -- told by its length, its first byte and its last
  told : {n x y : ℕ} → length name ≡ n → 0 < n → byte name 0 ≡ x → byte name (n - 1) ≡ y → label_of s q ≡ label_by n x y
  unfolding label_of
  told {n} {x} {y} is h first last =
      let long = part_length s q.start q.end name cut fits in
      let end : length name - 1 ≡ n - 1 = omega (arith, is) in
      rw (
        ← long,
        is,
        ← part_first s q.start q.end name cut fits (omega (arith, is)),
        first,
        ← part_last s q.start q.end name cut fits (omega (arith, is)),
        end,
        last,
      )
      refl

  pub label_nothing : length name < 1 → Misnamed ≡ label_of s q
  unfolding label_of label_by is_no_name is_name
  label_nothing h =
      let none : q.end - q.start ≡ 0 = omega (arith, part_length s q.start q.end name cut fits) in
      rw none refl

  module _ (h : 1 ≤ length name) (l : length name < 2) where
    one : length name ≡ 1
    one = omega arith

    pub label_semicolon : byte name 0 ≡ 0x3b → Unnamed ≡ label_of s q
    unfolding label_by is_no_name
    label_semicolon x = sym (told one (omega arith) x refl)

    pub label_letter : (byte name 0 ≡ 0x3b → ⊥) → Misnamed ≡ label_of s q
    unfolding label_by is_no_name is_name
    label_letter x = sym (told one (omega arith) refl refl ∙ rw (ne_eqb (byte name 0) 0x3b x) refl)

  module _ (h : 2 ≤ length name) (l : length name < 3) where
    two : length name ≡ 2
    two = omega arith

    pub label_empty : equal_quotes (byte name 0) (byte name 1) ≡ true → Unnamed ≡ label_of s q
    unfolding label_by is_no_name
    label_empty t = sym (told two (omega arith) refl refl ∙ rw t refl)

    pub label_pair : equal_quotes (byte name 0) (byte name 1) ≡ false → Misnamed ≡ label_of s q
    unfolding label_by is_no_name is_name
    label_pair t = sym (told two (omega arith) refl refl ∙ rw t refl)

  module _ (h : 3 ≤ length name) where
    pub label_quoted : equal_quotes (byte name 0) (byte name (length name - 1)) ≡ true → Named ≡ label_of s q
    unfolding label_by is_no_name is_name
    label_quoted t = sym (told refl (omega arith) refl refl ∙ rw (ne_eqb (length name) 1 (omega arith), ne_eqb (length name) 2 (omega arith), lt-ltb 2 (length name) (omega arith), t) refl)

    pub label_bare : equal_quotes (byte name 0) (byte name (length name - 1)) ≡ false → Misnamed ≡ label_of s q
    unfolding label_by is_no_name is_name
    label_bare t = sym (told refl (omega arith) refl refl ∙ rw (ne_eqb (length name) 1 (omega arith), ne_eqb (length name) 2 (omega arith), lt-ltb 2 (length name) (omega arith), t) refl)

pub ruleset labeling = (rules, double_quotes, single_quotes, double_opened, single_opened, unquoted, label_nothing, label_semicolon, label_letter, label_empty, label_pair, label_quoted, label_bare)

-- a name in quotes has more than 2 bytes
abbrev Long : ℕ → Label → Type 0
Long n Unnamed = Unit {0}
Long n Named = 2 < n
Long n Misnamed = Unit {0}

long : (n x y : ℕ) → Long n (label_by n x y)
unfolding label_by is_name
long n x y =
    cond_both (is_no_name n x y) Unnamed (cond (is_name n x y) Named Misnamed) (Long n) (λ _. tt)
    (λ _. cond_both (is_name n x y) Named Misnamed (Long n) (λ q. ltb-true 2 n (and_parts (ltb 2 n) (equal_quotes x y) q).0) (λ _. tt))

pub name_long : (s : List ℕ) (p t : ℕ) → label_of s (span p t) ≡ Named → p + 2 < t
unfolding label_of
name_long s p t q = omega (arith, subst (Long (t - p)) q (long (t - p) (byte s p) (byte s (t - 1))))

pub label_long : (s : List ℕ) (q : Span) (k : Label) → k ≡ label_of s q → k ≡ Named → q.start + 2 < q.end
label_long s q k is z = name_long s q.start q.end (sym is ∙ z)

-- ---- the blank

-- what is found stands from i to before e
pub last_inside : (test : ℕ → Bool) (i e q : ℕ) → last test i e ≡ Some q → (i ≤ q) × (q < e)
last_inside test i e q z = by (le_or_lt i e)
  where
    at : LastAt test i e (last test i e) ⊎ LastNone test i e (last test i e) → (i ≤ q) × (q < e)
    at (inl a) =
        let is = a.is in
        let same : a.place ≡ q = cc in
        (omega (arith, a.from, same), omega (arith, a.to, same))
    at (inr n) =
        let is = n.is in
        cc

    by : (i ≤ e) ⊎ (e < i) → (i ≤ q) × (q < e)
    by (inl h) = at (last_is test i e h)
    by (inr h) =
        let none = last_none test i e (omega arith) in
        cc

pub blank_to : (s : List ℕ) (i e q : ℕ) (f : Option ℕ) → f ≡ last_blank s i e → f ≡ Some q → q < e
blank_to s i e q f is z = (last_inside (λ k. is_blank (byte s k)) i e q (sym is ∙ z)).1

pub ruleset heading = (rules, label_long, target_from, target_to, blank_to)

-- ---- every way that a heading comes out

module _ (s : List ℕ) (r : ℕ) (x : Option TargetState) (q : Span) (rs : List Rule) where
  behind_unnamed : label_of s q ≡ Unnamed → heading_behind s r x q rs ≡ Ok (Fresh r (head_unnamed r x))
  unfolding heading_behind
  behind_unnamed e = rw (e, heading_behind)

  behind_misnamed : label_of s q ≡ Misnamed → heading_behind s r x q rs ≡ faulty InvalidName (r + 1)
  unfolding heading_behind
  behind_misnamed e = rw (e, heading_behind)

  behind_named : label_of s q ≡ Named → heading_behind s r x q rs ≡ Ok (heading_named s r x q rs)
  unfolding heading_behind
  behind_named e = rw (e, heading_behind)

  -- what holds of a repeated name and of a new one holds of one in quotes
  named_cases : (P : Heading → Type 0) → ((first again : Span) → P (Repeated first again))
      → (length rs ≤ rule_named s q rs → P (Fresh r (head_named r q x))) → P (heading_named s r x q rs)
  unfolding heading_named
  named_cases P repeated fresh =
      let h = head_named r q x in
      let first = nth_rule rs (rule_named s q rs) in
      cond_both (ltb (rule_named s q rs) (length rs)) (repeats first h) (Fresh r h) P
      (λ _. repeated (span first.span_start first.span_end) h.name_span) (λ z. fresh (ltb-false (rule_named s q rs) (length rs) z))

module _ (s : List ℕ) (i t : ℕ) (xs : List State) (rs : List Rule) where
  unsplit : last_blank s i t ≡ None → heading_of s i t xs rs ≡ faulty MissingSpace i
  unfolding heading_of
  unsplit b = rw (b, heading_of)

  aimed_wrong : {r : ℕ} {error : LexError} → last_blank s i t ≡ Some r → target_of s r t xs ≡ Err error → heading_of s i t xs rs ≡ Err error
  unfolding heading_of
  aimed_wrong b g = rw (b, g, heading_of)

  aimed : {r : ℕ} {x : Target} → last_blank s i t ≡ Some r → target_of s r t xs ≡ Ok x
      → heading_of s i t xs rs ≡ heading_behind s r x.state (span x.end t) rs
  unfolding heading_of
  aimed b g = rw (b, g, heading_of)

  module _ (P : Result Heading LexError → Type 0) (wrong : (error : LexError) → P (Err error))
      (repeated : (first again : Span) → P (Ok (Repeated first again))) where
    -- what holds of each outcome holds of the heading
    pub heading_cases : ((r : ℕ) (x : Target) → last_blank s i t ≡ Some r → target_of s r t xs ≡ Ok x → P (Ok (Fresh r (head_unnamed r x.state))))
        → ((r : ℕ) (x : Target) → last_blank s i t ≡ Some r → target_of s r t xs ≡ Ok x → label_of s (span x.end t) ≡ Named
        → length rs ≤ rule_named s (span x.end t) rs → P (Ok (Fresh r (head_named r (span x.end t) x.state)))) → P (heading_of s i t xs rs)
    heading_cases unnamed fresh = by_blank (last_blank s i t) refl
      where
        by_label : (r : ℕ) (x : Target) → last_blank s i t ≡ Some r → target_of s r t xs ≡ Ok x → (k : Label) → label_of s (span x.end t) ≡ k
            → P (heading_behind s r x.state (span x.end t) rs)
        by_label r x b g Unnamed e = rw (behind_unnamed s r x.state (span x.end t) rs e) (unnamed r x b g)
        by_label r x b g Misnamed e =
            rw (behind_misnamed s r x.state (span x.end t) rs e) (wrong (record { kind = InvalidName; at = r + 1 }))
        by_label r x b g Named e =
            rw (behind_named s r x.state (span x.end t) rs e)
            (named_cases s r x.state (span x.end t) rs (λ (z : Heading). P (Ok z)) repeated (fresh r x b g e))

        by_target : (r : ℕ) → last_blank s i t ≡ Some r → (k : Result Target LexError) → target_of s r t xs ≡ k → P (heading_of s i t xs rs)
        by_target r b (Err error) g = rw (aimed_wrong b g) (wrong error)
        by_target r b (Ok x) g = rw (aimed b g) (by_label r x b g (label_of s (span x.end t)) refl)

        by_blank : (f : Option ℕ) → last_blank s i t ≡ f → P (heading_of s i t xs rs)
        by_blank None b = rw (unsplit b) (wrong (record { kind = MissingSpace; at = i }))
        by_blank (Some r) b = by_target r b (target_of s r t xs) refl

-- ---- the blank that splits the line of a fresh rule stands within it

abbrev Splits : ℕ → ℕ → Result Heading LexError → Type 0
Splits i t (Err error) = Unit {0}
Splits i t (Ok (Repeated first again)) = Unit {0}
Splits i t (Ok (Fresh b h)) = (i ≤ b) × (b < t)

module _ (s : List ℕ) (i t : ℕ) (xs : List State) (rs : List Rule) where
  splits_all : Splits i t (heading_of s i t xs rs)
  splits_all =
      let inside : (r : ℕ) → last_blank s i t ≡ Some r → (i ≤ r) × (r < t) = last_inside (λ k. is_blank (byte s k)) i t in
      heading_cases s i t xs rs (Splits i t) (λ _. tt) (λ _ _. tt) (λ r _ b _. inside r b) (λ r _ b _ _ _. inside r b)

  module _ (k : Result Heading LexError) (is : k ≡ heading_of s i t xs rs) {z : Heading} (was : k ≡ Ok z) (b : ℕ) (h : Head) (q : z ≡ Fresh b h) where
    splits : (i ≤ b) × (b < t)
    splits = subst (Splits i t) (sym is ∙ was ∙ ap Ok q) splits_all

    pub fresh_from : i ≤ b
    fresh_from = splits.0

    pub fresh_to : b < t
    fresh_to = splits.1

-- ---- no rule before a fresh one has its name

-- the name in a heading is the name of none of the rules rs
abbrev NewName : List ℕ → List Rule → Result Heading LexError → Type 0
NewName s rs (Err error) = Unit {0}
NewName s rs (Ok (Repeated first again)) = Unit {0}
NewName s rs (Ok (Fresh b h)) = Unused s rs (named_field h.name) (name_fields h.name).from (name_fields h.name).length

module _ (s : List ℕ) (i t : ℕ) (xs : List State) (rs : List Rule) where
  -- the quoted name from p to t, which the search did not find
  new_named : (r : ℕ) (x : Option TargetState) (p : ℕ) → label_of s (span p t) ≡ Named → length rs ≤ rule_named s (span p t) rs
      → NewName s rs (Ok (Fresh r (head_named r (span p t) x)))
  unfolding rule_named
  new_named r x p named none =
      let ends : p + 1 + (t - p - 2) ≡ t - 1 = omega (arith, name_long s p t named) in
      record { unused = λ j h n _ q. name_unused s (p + 1) (t - 1) rs none j h n (q ∙ ap (part s (p + 1)) ends) }

  new_name : NewName s rs (heading_of s i t xs rs)
  new_name =
      heading_cases s i t xs rs (NewName s rs) (λ _. tt) (λ _ _. tt) (λ _ _ _ _. record { unused = λ _ _ _ z _. absurd (omega (arith, z)) })
      (λ r x _ _ named none. new_named r x.state x.end named none)

  pub fresh_unused : (b : ℕ) (h : Head) → heading_of s i t xs rs ≡ Ok (Fresh b h)
      → Unused s rs (named_field h.name) (name_fields h.name).from (name_fields h.name).length
  fresh_unused b h q = subst (NewName s rs) q new_name

-- ---- the name of a fresh rule ends inside the source

-- the name in a heading; a rule without one has an empty name at 0
abbrev NameInside : List ℕ → Result Heading LexError → Type 0
NameInside s (Err error) = Unit {0}
NameInside s (Ok (Repeated first again)) = Unit {0}
NameInside s (Ok (Fresh b h)) = (name_fields h.name).from + (name_fields h.name).length ≤ length s

module _ (s : List ℕ) (i t : ℕ) (xs : List State) (rs : List Rule) (l : t ≤ length s) where
  -- the name stands in its quotes, which end at t
  quoted_inside : (r : ℕ) (x : Option TargetState) (p : ℕ) → label_of s (span p t) ≡ Named → NameInside s (Ok (Fresh r (head_named r (span p t) x)))
  quoted_inside r x p named = omega (arith, l, name_long s p t named)

  pub fresh_name_inside : (b : ℕ) (h : Head) → heading_of s i t xs rs ≡ Ok (Fresh b h) → (name_fields h.name).from + (name_fields h.name).length ≤ length s
  fresh_name_inside b h q =
      subst (NameInside s) q
      (heading_cases s i t xs rs (NameInside s) (λ _. tt) (λ _ _. tt) (λ _ _ _ _. omega arith) (λ r x _ _ named _. quoted_inside r x.state x.end named))

-- What a pattern is: the `>` that closes a list of states stands within it.
use mathlib.Core.Path.{◌≡◌, subst, sym, ◌∙◌}
use mathlib.Core.Bool.{cond}
use mathlib.Core.List.{List}
use Prim.Native.Nat.{ℕ, ◌≤◌, ◌<◌}
use borrow.Author.Tests.{leb-false}
use lib.Dec.{eqb, leb}
use Rattle.std.proofs.lemmas.Bool.{cond_both}
use Rattle.characters.specs.Whitespace.{byte}
use Rattle.characters.proofs.Walks.{first_from}
use Rattle.escape.specs.Escape.{is_rewritten}
use Rattle.rules.specs.declared.Body.{Body}
use Rattle.rules.specs.declared.Body.TheVariants.{Unclosed, Listed, Rewritten, Plain}
use Rattle.rules.specs.Heading.{has_list, list_end, body_of}

abbrev Closes : ℕ → ℕ → Body → Type 0
Closes i c Unclosed = Unit {0}
Closes i c (Listed g) = (i ≤ g) × (g < c)
Closes i c Rewritten = Unit {0}
Closes i c Plain = Unit {0}

module _ (s : List ℕ) (i c : ℕ) where
  closes : Closes i c (body_of s i c)
  unfolding body_of list_end
  closes =
      let g = list_end s i c in
      cond_both (has_list s i c) (cond (leb c g) Unclosed (Listed g)) (cond (is_rewritten s i c) Rewritten Plain) (Closes i c)
      (λ _. cond_both (leb c g) Unclosed (Listed g) (Closes i c) (λ _. tt) (λ d. (first_from (λ k. eqb (byte s k) 0x3e) i c, leb-false c g d)))
      (λ _. cond_both (is_rewritten s i c) Rewritten Plain (Closes i c) (λ _. tt) (λ _. tt))

  module _ (k : Body) (is : k ≡ body_of s i c) (g : ℕ) (q : k ≡ Listed g) where
    pub listed_from : i ≤ g
    listed_from = (subst (Closes i c) (sym is ∙ q) closes).0

    pub listed_to : g < c
    listed_to = (subst (Closes i c) (sym is ∙ q) closes).1

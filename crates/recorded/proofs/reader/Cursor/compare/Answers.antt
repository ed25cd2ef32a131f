-- The word, the counts and the areas stand one behind the other.
use Rattle.std.proofs.Common.{◌≡◌, ℕ, List, length, subst, ◌∙◌, arith}
use Rattle.recorded.specs.Records.{number_at, skip_to, word_at, counts_from, areas_at, area_start}
use Rattle.recorded.specs.Comparison.{WhenTrue, CountsAre, AreasAre, lent_lists}
use Rattle.recorded.proofs.Comparing.{left_compared}
use Rattle.recorded.proofs.reader.Cursor.compare.Goals as goal

pub returns : goal.returns
unfolding area_start
returns c =
    let word = c.number.ensures in
    let areas = c.same_areas.ensures in
    let l : List ℕ = c.args.self.now.answers.now in
    let lengths : ℕ = c.args.self.now.at in
    let same1 : c.skip.new.self.answers.now ≡ l = c.skip.ensures.same in
    let same2 : c.number.new.self.answers.now ≡ l = word.goes.same ∙ same1 in
    let same3 : c.skip-2.new.self.answers.now ≡ l = c.skip-2.ensures.same ∙ same2 in
    let at1 : c.skip.new.self.at ≡ word_at l lengths = c.skip.ensures.at_is in
    let at2 : c.number.new.self.at ≡ counts_from l lengths = word.goes.at_is ∙ (λ i. skip_to (same1 i) (at1 i) 4) in
    let at3 : c.skip-2.new.self.at ≡ areas_at l lengths = c.skip-2.ensures.at_is ∙ (λ i. skip_to (same2 i) (at2 i) 12) in
    record {
      equal = left_compared _ _ _ _ _ _ _ _
          (word.is ∙ (λ i. number_at (same1 i) (at1 i)))
          (subst (λ (P : Type 0). WhenTrue P c.counted-same_counts.result)
          (λ i. CountsAre c.args.counts.now (same2 i) (at2 i) (length c.args.counts.now)) c.counted-same_counts.ensures)
          (subst (λ (P : Type 0). WhenTrue P c.same_areas.result)
          (λ i. AreasAre (lent_lists c.args.areas) (same3 i) lengths (at3 i) 6) areas.equal);
      goes = record {
        at_is = areas.goes.at_is ∙ (λ i. area_start (same3 i) (at3 i) 6);
        same = areas.goes.same ∙ same3;
        on = omega (arith, areas.goes.on, c.skip-2.ensures.on, word.goes.on, c.skip.ensures.on);
      };
    }

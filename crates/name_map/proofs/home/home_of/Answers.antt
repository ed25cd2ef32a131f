-- `name_map::home::home_of` meets its contract: the checksum is that of the name's bytes.
use Rattle.std.proofs.Common.{◌≡◌, refl, ap, ◌∙◌, length, drop, ◌+◌, ◌*◌, ◌/◌, ◌%◌, arith, rules}
use Rattle.std.specs.List.{fold}
use Rattle.std.proofs.iter.Yields.{fronts}
use Rattle.std.proofs.lemmas.Fn.{fold_over}
use Rattle.std.proofs.lemmas.Iterator.{YieldsList-from_slice}
use Rattle.name_map.specs.declared.home.Checksum.{Checksum}
use Rattle.name_map.specs.Home.{add_number, word_limit}
use Rattle.name_map.proofs.Homes.{fold_push, word_value, words_added, bytes_added, whole_home_made}
use Rattle.name_map.proofs.home.home_of.Goals as goal

pub returns : goal.returns
returns c =
    let name = c.args.name.now in
    let start : Checksum = record { sum = length name % word_limit; sums = 0 } in
    let words : c.fold-c.result ≡ fold (λ x w. add_number x (word_value w)) start c.as_chunks.result.0.now =
    fold_over fronts (λ w. w.now) _ (λ ws x. x ≡ fold (λ y w. add_number y (word_value w)) start ws) _
    (λ ws x w y f before k. (fold_push _ start ws w.now x y before (search rules), search rules)) c.iter.result _ start _
    (YieldsList-from_slice {s = c.iter.result} _ c.iter.ensures.rest).runs refl c.fold-c.ensures.ran in
    let bytes : c.fold-c-2.result ≡ fold (λ x b. add_number x b) c.fold-c.result c.as_chunks.result.1.now =
    fold_over fronts (λ b. b.now) _ (λ bs x. x ≡ fold (λ y b. add_number y b) c.fold-c.result bs) _
    (λ bs x b y f before k. (fold_push _ c.fold-c.result bs b.now x y before (search rules), search rules)) c.iter-2.result _ c.fold-c.result _
    (YieldsList-from_slice {s = c.iter-2.result} _ c.iter-2.ensures.rest).runs refl c.fold-c-2.ensures.ran in
    let behind : length name / 4 * 4 ≡ 0 + 4 * (length name / 4) = omega arith in
    whole_home_made name _ refl c.fold-c.result c.fold-c-2.result _ _
    (words ∙ words_added name _ _ c.as_chunks.ensures.front c.as_chunks.ensures.front_len start)
    (bytes ∙ bytes_added name _ _ _ (c.as_chunks.ensures.back ∙ ap (λ j. drop j name) behind) c.as_chunks.ensures.back_len c.fold-c.result)
    c.mix.ensures c.mix-2.ensures

-- What a text asks for.
use Rattle.std.{proofs.Common.{◌≡◌, ◌<◌, ◌≤◌, ◌&&◌, ℕ, List, Bool, true, false, arith, codes, drop, length, map, take}, proofs.lemmas.Bool.{ltb-false, ltb-true}, proofs.lemmas.Bool.Decides.same_from_decides, proofs.lemmas.List.{length-take, take_all}, proofs.lemmas.Slice.Eq.bytes_eq-Decides, proofs.lemmas.Grind.common_steps, specs.Bool.Decides, specs.Char.to_ascii_lowercase, specs.Str.str_eq_ignore_ascii_case}
use Rattle.star_statements.specs.{declared.questions.Question.TheVariants.{Nothing, TooLong, Query, Explain, Quote}, Blanks.is_blank_at_front, Questions.{asked_by_text, begins_with_word, behind_word}}

-- two texts that a test has told
pub told_as : (front word : List ℕ) (same : Bool)
    → Decides same (map to_ascii_lowercase front ≡ map to_ascii_lowercase word)
    → same ≡ str_eq_ignore_ascii_case front word
told_as front word same tells = same_from_decides same _ tells (bytes_eq-Decides _ _)

-- a text that is cut behind as many bytes as a word has
pub begins_as : (word text front rest : List ℕ) → front ≡ take (length word) text
    → rest ≡ drop (length word) text
    → begins_with_word word text ≡ (str_eq_ignore_ascii_case front word && is_blank_at_front rest)
unfolding begins_with_word
begins_as word text front rest start left = grind arith

pub begins_short : (word text : List ℕ) → length text < length word
    → begins_with_word word text ≡ false
unfolding begins_with_word
begins_short word text short = grind (arith, common_steps)

pub nothing : (text : List ℕ) → length text ≡ 0 → asked_by_text text ≡ Nothing
unfolding asked_by_text
nothing it empty = grind arith

pub too_long : (text : List ℕ) → 65536 < length text → asked_by_text text ≡ TooLong
unfolding asked_by_text
too_long it long = grind (arith, common_steps)

-- texts that are not empty, and not too long
module _ where
  pub explained : (text : List ℕ) → 0 < length text → length text ≤ 65536
      → begins_with_word (codes "explain") text ≡ true
      → asked_by_text text ≡ Explain (behind_word (codes "explain") text)
  unfolding asked_by_text
  explained it some short begins = grind (arith, common_steps)

  pub quoted : (text : List ℕ) → 0 < length text → length text ≤ 65536
      → begins_with_word (codes "explain") text ≡ false
      → begins_with_word (codes "quote") text ≡ true
      → asked_by_text text ≡ Quote (behind_word (codes "quote") text)
  unfolding asked_by_text
  quoted it some short other begins = grind (arith, common_steps)

  pub queried : (text : List ℕ) → 0 < length text → length text ≤ 65536
      → begins_with_word (codes "explain") text ≡ false
      → begins_with_word (codes "quote") text ≡ false
      → asked_by_text text ≡ Query text
  unfolding asked_by_text
  queried it some short other another = grind (arith, common_steps)

-- the first bytes of a text tell as much as the whole, if they are more than a text may have
asked-many : (many : ℕ) (text : List ℕ) → 65536 < many
    → asked_by_text (take many text) ≡ asked_by_text text
asked-many many text more = grind (arith, ltb-true, too_long, length-take, take_all, ltb-false)

pub asked-front : (text : List ℕ) → asked_by_text (take 65537 text) ≡ asked_by_text text
asked-front text = asked-many 65537 text (omega arith)

-- What a word that should be a number says, where a token lies, and how the tokens of a line follow one another.
use Rattle.std.specs.Prelude.{◌≡◌, ℕ, ◌-◌, ◌<◌, ◌≤◌, List, length, take, drop, Ok, Err, Option, Result, MatchOption}
use Rattle.text.specs.declared.lex.Span.{Span}
use Rattle.text.specs.declared.lex.Token.{Token}
use Rattle.text.specs.declared.lex.Tokens.{Tokens}
use Rattle.text.specs.declared.lex.WordFault.{WordFault}
use Rattle.text.specs.declared.lex.WordFault.TheVariants.{TooLarge, Unknown}

-- a number that is read is at most the limit, and a number that is too large names the limit
abbrev pub Within : ℕ → Result ℕ WordFault → Type 0
Within limit (Ok n) = n ≤ limit
Within limit (Err (TooLarge most)) = most ≡ limit
Within limit (Err Unknown) = Unit {0}

-- a token lies in its text, its end not before its start
abbrev pub Inside : List ℕ → Span → Type 0
Inside text s = (s.start ≤ s.end) × (s.end ≤ length text)

-- a token lies in the line, ends further on than the place from which it was sought, and has the bytes that stand there;
-- the next is sought from its end
abbrev pub Steps : Tokens → Option Token → Tokens → Type 0
Steps s o t =
    MatchOption o (t ≡ s)
    (λ k.
    (t.text ≡ s.text) × (t.at ≡ k.span.end) × (s.at < k.span.end) × Inside s.text.now k.span
    × (k.word.now ≡ take (k.span.end - k.span.start) (drop k.span.start s.text.now)))

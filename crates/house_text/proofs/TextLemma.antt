-- The text lemma: the house spelling of any root, bass, set and K is read without error into the expressions that it names, with its root.
-- The argument: head (root and `dim7` or `m`), pieces and bass are cut into tokens each by itself, since what follows begins with a comma or
-- a slash or is nothing; folding pairs the Dim of the head with its own 7 and finds no other partner; the parser is between any two pieces
-- in the state in which it began.
-- Assumes nothing.
use mathlib.Core.Bool.{Bool, true, false, not, ◌&&◌, cond}
use mathlib.Core.List.{List, [], ◌∷◌, ◌++◌, append_assoc, append-nil}
use mathlib.Core.Path.{◌≡◌, refl, sym, ap, ◌∙◌}
use Prim.Native.Nat.{ℕ, ◌+◌}
use lib.Dec.{eqb}
use lib.IntN.{pos}
use lib.ListN.{get_or, length}
use Rattle.lookahead.specs.Next.{is_sign, sign_in}
use Rattle.intervals.specs.Interval.{Set, minor_third, diminished_seventh}
use Rattle.note.specs.declared.Note.{Note}
use Rattle.note.specs.declared.NoteLiteral.TheVariants.{C, D, E, F, G, A, B}
use Rattle.note.specs.declared.NoteLiteral.{NoteLiteral}
use Rattle.std.specs.declared.option.Option.TheVariants.{None, Some}
use Rattle.note.specs.Note.{OptionalNote}
use Rattle.note.specs.declared.RootModifier.TheVariants.{Natural, Sharp, Flat}
use Rattle.note.specs.declared.RootModifier.{RootModifier}
use Rattle.expression.specs.declared.expression.Exp.TheVariants.{Minor, Dim7, SlashBass}
use Rattle.expression.specs.declared.expression.Exp.{Exp}
use Rattle.folding.proofs.Calm.{calm, unchanged, in_two}
use Rattle.folding.specs.Folding.{concat, count, dim, dim7, fold7, fold_on, is_maj, join, maj, maj7, pre_process}
use Rattle.house_parts.specs.House.{given, is_some, note_or_c, spell_exps}
use Rattle.house_parts.specs.declared.kind.SusKind.{SusKind}
use Rattle.lexer.specs.Lexer.{digit_of, end_of, head_of, lex, sign_of, tokens_of}
use Rattle.lexer.specs.Text.{ascii}
use Rattle.lexer.specs.Words.{by_ends, is_letter, run_end, word_to, words}
use Rattle.expression.specs.declared.parser_error.ParserError.{ParserError}
use Rattle.parser.specs.Parser.{Parsing, itself, last_six, next_at, parse_of, root_of, walk}
use Rattle.step.specs.declared.context.Context.TheVariants as context
use Rattle.token.specs.Token.{type_number, token, type_of}
use Rattle.token.specs.declared.Token.{Token}
use Rattle.token.specs.declared.TokenType.TheVariants.{Eof}
use Rattle.utf8.specs.Utf8.{bits, char_of, encode, is_scalar}
use Rattle.house_text.specs.Spelling.{letter_text, sign_text, note_text, spell}
use Rattle.house_text.proofs.Piecewise.{Piece, piece, after, pieces, Border, at-end, at_slash, by_border, Apart, found, toks, Unsigned, plain_end, cut, none_in_two, Goods, goods}

-- Any pieces, one after the other.

-- the texts of those pieces that stand, and then r
abbrev pub text_of : List Piece → List ℕ → List ℕ
text_of [] r = r
text_of (piece c t e i f ∷ gs) r = cond c t [] ++ text_of gs r

-- where the text goes on behind a piece; shut, so that places stay small
unfoldable pub moved : Bool → List ℕ → ℕ → ℕ
moved true t q = after t q
moved false t q = q

-- where the last piece ends
abbrev pub pieces_end : List Piece → ℕ → ℕ
pieces_end [] q = q
pieces_end (piece c t e i f ∷ gs) q = pieces_end gs (moved c t q)

-- the tokens of those that stand, and then z
abbrev pub toks_of : List Piece → ℕ → List Token → List Token
toks_of [] q z = z
toks_of (piece c t e i f ∷ gs) q z = cond c (toks q t) [] ++ toks_of gs (moved c t q) z

-- the expressions of those that stand, and then z
abbrev pub exps_of : List Piece → ℕ → List Exp → List Exp
exps_of [] q z = z
exps_of (piece c t e i f ∷ gs) q z = given c (e (f q)) (exps_of gs (moved c t q) z)

-- the text goes on with no letter and no digit
border_of : (gs : List Piece) → Goods gs → (r : List ℕ) → Border r → Border (text_of gs r)
border_of [] o r h = h
border_of (piece true t e i f ∷ gs) o r h = o.0.border (text_of gs r)
border_of (piece false t e i f ∷ gs) o r h = border_of gs o.1 r h

-- the pieces are cut and joined each by itself
cut_pieces : (gs : List Piece) → Goods gs → (q : ℕ) (r : List ℕ) → Border r → (z : List Token) → concat (lex 0 [] q (text_of gs r) ++ z) ≡ toks_of gs q (concat (lex 0 [] (pieces_end gs q) r ++ z))
unfolding moved
cut_pieces [] o q r h z = refl
cut_pieces (piece true t e i f ∷ gs) o q r h z =
    cut q t (text_of gs r) z (o.0.lexed q (text_of gs r) (border_of gs o.1 r h)) (o.0.plain q)
    ∙ ap (λ (l : List Token). toks q t ++ l) (cut_pieces gs o.1 (after t q) r h z)
cut_pieces (piece false t e i f ∷ gs) o q r h z = cut_pieces gs o.1 q r h z

-- no Dim in the pieces
no_dims : (gs : List Piece) → Goods gs → (q : ℕ) (z : List Token) → count dim z ≡ 0 → count dim (toks_of gs q z) ≡ 0
no_dims [] o q z h = h
no_dims (piece true t e i f ∷ gs) o q z h = none_in_two dim (toks q t) _ (o.0.no_dim q) (no_dims gs o.1 _ z h)
no_dims (piece false t e i f ∷ gs) o q z h = no_dims gs o.1 _ z h

-- no Maj that is left in the pieces
no_majs : (gs : List Piece) → Goods gs → (q : ℕ) (z : List Token) → count maj z ≡ 0 → count maj (toks_of gs q z) ≡ 0
no_majs [] o q z h = h
no_majs (piece true t e i f ∷ gs) o q z h = none_in_two maj (toks q t) _ (o.0.no_maj q) (no_majs gs o.1 _ z h)
no_majs (piece false t e i f ∷ gs) o q z h = no_majs gs o.1 _ z h

-- no sign comes first
unsigned_pieces : (gs : List Piece) → Goods gs → (q : ℕ) (z : List Token) → Unsigned z → Unsigned (toks_of gs q z)
unsigned_pieces [] o q z h = h
unsigned_pieces (piece true t e i f ∷ gs) o q z h = o.0.unsigned q _
unsigned_pieces (piece false t e i f ∷ gs) o q z h = unsigned_pieces gs o.1 _ z h

-- each piece that stands gives its expression
parse_pieces : (gs : List Piece) → Goods gs → (q : ℕ) (z : List Token) (zs : List Exp) → ((xs : List Exp) → walk itself [] (found xs) z ≡ found (xs ++ zs)) → (xs : List Exp) → walk itself [] (found xs) (toks_of gs q z) ≡ found (xs ++ exps_of gs q zs)
parse_pieces [] o q z zs h xs = h xs
parse_pieces (piece true t e i f ∷ gs) o q z zs h xs =
    o.0.parsed q xs _
    ∙ parse_pieces gs o.1 _ z zs h (xs ++ (e (f q) ∷ []))
    ∙ ap found (append_assoc xs (e (f q) ∷ []) _)
parse_pieces (piece false t e i f ∷ gs) o q z zs h xs = parse_pieces gs o.1 _ z zs h xs

-- The head: root, sign, and `dim7` or `m`.

-- what stands between the root and the first comma
pub data Form : Type 0 where
  plain minor diminished : Form

abbrev pub form_of : Set → Form
form_of n = cond (n diminished_seventh) diminished (cond (n minor_third) minor plain)

abbrev pub form_text : Form → List ℕ
form_text plain = []
form_text minor = ascii "m"
form_text diminished = ascii "dim7"

abbrev pub form_exps : Form → List Exp
form_exps plain = []
form_exps minor = Minor ∷ []
form_exps diminished = Dim7 ∷ []

abbrev pub head_text : NoteLiteral → RootModifier → Form → List ℕ
head_text l a f = (letter_text l ++ sign_text a) ++ form_text f

-- where the head ends, whatever its letter
abbrev pub head_end : RootModifier → Form → ℕ
head_end a f = after (form_text f) (after (sign_text a) 1)

-- the head's tokens once the Dim has met its 7
abbrev head_toks : NoteLiteral → RootModifier → Form → List Token
head_toks l a f = fold7 dim dim7 (toks 0 (head_text l a f))

-- what the seven letters give, so that one `refl` compares all seven
abbrev row : {X : Type 0} → (NoteLiteral → X) → List X
row u = u C ∷ u D ∷ u E ∷ u F ∷ u G ∷ u A ∷ u B ∷ []

-- letter by letter: two that give the same row are the same at each letter
by-letter : {X : Type 0} (u v : NoteLiteral → X) → row u ≡ row v → (l : NoteLiteral) → u l ≡ v l
by-letter {X} u v e C = ap (λ (r : List X). get_or r 0 (u C)) e
by-letter {X} u v e D = ap (λ (r : List X). get_or r 1 (u C)) e
by-letter {X} u v e E = ap (λ (r : List X). get_or r 2 (u C)) e
by-letter {X} u v e F = ap (λ (r : List X). get_or r 3 (u C)) e
by-letter {X} u v e G = ap (λ (r : List X). get_or r 4 (u C)) e
by-letter {X} u v e A = ap (λ (r : List X). get_or r 5 (u C)) e
by-letter {X} u v e B = ap (λ (r : List X). get_or r 6 (u C)) e

-- what is asked of a head
record Head (a : RootModifier) (f : Form) (l : NoteLiteral) : Type 0 where
  goes : after (head_text l a f) 0 ≡ head_end a f
  ends : plain_end (lex 0 [] 0 (head_text l a f)) ≡ true
  no_dim : count dim (head_toks l a f) ≡ 0
  no_maj : count maj (head_toks l a f) ≡ 0
  rooted : (z : List Token) → Unsigned z → root_of (head_toks l a f ++ z) ≡ Some (record { literal = l; modifier = a })
  parses : (z : List Token) → Unsigned z → parse_of (head_toks l a f ++ z) ≡ walk itself [] (found (form_exps f)) z

-- with no sign behind it the root takes no token more
unmarked : (z : List Token) → is_sign (next_at z 0) ≡ false → walk itself [] (record { skip = cond (is_sign (next_at z 0)) 1 0; count = pos 0; context = context.None; errs = []; exps = [] }) z ≡ walk itself [] (found []) z
unmarked z h = ap (λ (b : Bool). walk itself [] (record { skip = cond b 1 0; count = pos 0; context = context.None; errs = []; exps = [] }) z) h

-- a head is as asked with each letter, if the rows of what is asked are equal
heads : (a : RootModifier) (f : Form) → row (λ l. after (head_text l a f) 0) ≡ row (λ l. head_end a f)
    → row (λ l. plain_end (lex 0 [] 0 (head_text l a f))) ≡ row (λ l. true)
    → row (λ l. count dim (head_toks l a f)) ≡ row (λ l. 0)
    → row (λ l. count maj (head_toks l a f)) ≡ row (λ l. 0)
    → ((z : List Token) → Unsigned z → row (λ l. root_of (head_toks l a f ++ z)) ≡ row (λ l. Some (record { literal = l; modifier = a })))
    → ((z : List Token) → Unsigned z → row (λ l. parse_of (head_toks l a f ++ z)) ≡ row (λ l. walk itself [] (found (form_exps f)) z))
    → (l : NoteLiteral)
    → Head a f l
heads a f g e d m r p l = record {
  goes = by-letter (λ l. after (head_text l a f) 0) (λ l. head_end a f) g l;
  ends = by-letter (λ l. plain_end (lex 0 [] 0 (head_text l a f))) (λ l. true) e l;
  no_dim = by-letter (λ l. count dim (head_toks l a f)) (λ l. 0) d l;
  no_maj = by-letter (λ l. count maj (head_toks l a f)) (λ l. 0) m l;
  rooted = λ z h. by-letter (λ l. root_of (head_toks l a f ++ z)) (λ l. Some (record { literal = l; modifier = a })) (r z h) l;
  parses = λ z h. by-letter (λ l. parse_of (head_toks l a f ++ z)) (λ l. walk itself [] (found (form_exps f)) z) (p z h) l;
}

-- each head is as asked; where the letter is the last of it, what follows is no sign
head : (a : RootModifier) (f : Form) (l : NoteLiteral) → Head a f l
unfolding head_of digit_of is_letter lex sign_of by_ends run_end word_to words concat count fold_on is_maj join last_six walk type_of bits char_of encode is_scalar
head Natural plain =
    heads Natural plain refl refl refl refl
    (λ z h. ap (λ (m : RootModifier). row (λ l. Some (record { literal = l; modifier = m }))) h.1)
    (λ z h. ap (λ (s : Parsing ParserError). row (λ l. s)) (unmarked z h.0))
head Natural minor = heads Natural minor refl refl refl refl (λ z h. refl) (λ z h. refl)
head Natural diminished = heads Natural diminished refl refl refl refl (λ z h. refl) (λ z h. refl)
head Sharp plain = heads Sharp plain refl refl refl refl (λ z h. refl) (λ z h. refl)
head Sharp minor = heads Sharp minor refl refl refl refl (λ z h. refl) (λ z h. refl)
head Sharp diminished = heads Sharp diminished refl refl refl refl (λ z h. refl) (λ z h. refl)
head Flat plain = heads Flat plain refl refl refl refl (λ z h. refl) (λ z h. refl)
head Flat minor = heads Flat minor refl refl refl refl (λ z h. refl) (λ z h. refl)
head Flat diminished = heads Flat diminished refl refl refl refl (λ z h. refl) (λ z h. refl)

-- the heads of the seven letters are cut each by itself, before r
abbrev Aparts : RootModifier → Form → List ℕ → Type 0
Aparts a f r = row (λ l. lex 0 [] 0 (head_text l a f ++ r)) ≡ row (λ l. lex 0 [] 0 (head_text l a f) ++ lex 0 [] (after (head_text l a f) 0) r)

-- and so they are before any border
heads_apart : (a : RootModifier) (f : Form) (r : List ℕ) → Border r → Aparts a f r
unfolding head_of digit_of is_letter lex sign_of by_ends run_end word_to words concat count fold_on is_maj join last_six walk type_of bits char_of encode is_scalar
heads_apart Natural plain = by_border (Aparts Natural plain) refl (λ r. refl) (λ r. refl)
heads_apart Natural minor = by_border (Aparts Natural minor) refl (λ r. refl) (λ r. refl)
heads_apart Natural diminished = by_border (Aparts Natural diminished) refl (λ r. refl) (λ r. refl)
heads_apart Sharp plain = by_border (Aparts Sharp plain) refl (λ r. refl) (λ r. refl)
heads_apart Sharp minor = by_border (Aparts Sharp minor) refl (λ r. refl) (λ r. refl)
heads_apart Sharp diminished = by_border (Aparts Sharp diminished) refl (λ r. refl) (λ r. refl)
heads_apart Flat plain = by_border (Aparts Flat plain) refl (λ r. refl) (λ r. refl)
heads_apart Flat minor = by_border (Aparts Flat minor) refl (λ r. refl) (λ r. refl)
heads_apart Flat diminished = by_border (Aparts Flat diminished) refl (λ r. refl) (λ r. refl)

-- a head is cut by itself
head_apart : (a : RootModifier) (f : Form) (l : NoteLiteral) (r : List ℕ) → Border r → Apart 0 (head_text l a f) r
head_apart a f l r b =
    by-letter (λ l. lex 0 [] 0 (head_text l a f ++ r)) (λ l. lex 0 [] 0 (head_text l a f) ++ lex 0 [] (after (head_text l a f) 0) r)
    (heads_apart a f r b) l

-- The bass, or none, and End.

-- as `written` ends
abbrev pub bass_text : OptionalNote → List ℕ
bass_text b = cond (is_some b) (ascii "/" ++ note_text (note_or_c b)) [] ++ []

abbrev pub bass_exps : OptionalNote → List Exp
bass_exps b = given (is_some b) (SlashBass (note_or_c b)) []

-- the tokens of the bass at q, and End at e
abbrev closing : OptionalNote → ℕ → ℕ → List Token
closing b q e = concat (lex 0 [] q (bass_text b) ++ (token (type_number Eof) e 0 ∷ []))

-- nothing, or a slash
bass_border : (b : OptionalNote) → Border (bass_text b)
bass_border None = at-end
bass_border (Some n) = at_slash _

-- what is asked of the bass
record Closing (b : OptionalNote) (q e : ℕ) : Type 0 where
  no_dim : count dim (closing b q e) ≡ 0
  no_maj : count maj (closing b q e) ≡ 0
  unsigned : Unsigned (closing b q e)
  parses : (xs : List Exp) → walk itself [] (found xs) (closing b q e) ≡ found (xs ++ bass_exps b)

-- a note that is the bass
abbrev noted : RootModifier → NoteLiteral → OptionalNote
noted a l = Some (record { literal = l; modifier = a })

-- a bass is as asked with each letter, if the rows of what is asked are equal; End gains nothing
overs : (q e : ℕ) (a : RootModifier) → row (λ l. count dim (closing (noted a l) q e)) ≡ row (λ l. 0)
    → row (λ l. count maj (closing (noted a l) q e)) ≡ row (λ l. 0)
    → row (λ l. is_sign (next_at (closing (noted a l) q e) 0)) ≡ row (λ l. false)
    → row (λ l. sign_in (next_at (closing (noted a l) q e) 0)) ≡ row (λ l. Natural)
    → ((xs : List Exp) → row (λ l. walk itself [] (found xs) (closing (noted a l) q e)) ≡ row (λ l. found ((xs ++ bass_exps (noted a l)) ++ [])))
    → (l : NoteLiteral)
    → Closing (noted a l) q e
overs q e a d m s t p l = record {
  no_dim = by-letter (λ l. count dim (closing (noted a l) q e)) (λ l. 0) d l;
  no_maj = by-letter (λ l. count maj (closing (noted a l) q e)) (λ l. 0) m l;
  unsigned = (
    by-letter (λ l. is_sign (next_at (closing (noted a l) q e) 0)) (λ l. false) s l,
    by-letter (λ l. sign_in (next_at (closing (noted a l) q e) 0)) (λ l. Natural) t l,
  );
  parses = λ xs. by-letter (λ l. walk itself [] (found xs) (closing (noted a l) q e)) (λ l. found ((xs ++ bass_exps (noted a l)) ++ [])) (p xs) l
      ∙ ap found (append-nil (xs ++ bass_exps (noted a l)));
}

-- each bass is as asked
over : (q e : ℕ) (a : RootModifier) (l : NoteLiteral) → Closing (noted a l) q e
unfolding head_of digit_of is_letter lex sign_of by_ends run_end word_to words concat count fold_on is_maj join last_six walk type_of bits char_of encode is_scalar
over q e Natural = overs q e Natural refl refl refl refl (λ xs. refl)
over q e Sharp = overs q e Sharp refl refl refl refl (λ xs. refl)
over q e Flat = overs q e Flat refl refl refl refl (λ xs. refl)

-- and so is none
close : (b : OptionalNote) (q e : ℕ) → Closing b q e
unfolding head_of digit_of is_letter lex sign_of by_ends run_end word_to words concat count fold_on is_maj join last_six walk type_of bits char_of encode is_scalar
close None q e = record { no_dim = refl; no_maj = refl; unsigned = (refl, refl); parses = λ xs. refl }
close (Some n) q e = over q e n.modifier n.literal

-- The whole text, of any good pieces.

module _ (l : NoteLiteral) (a : RootModifier) (f : Form) (gs : List Piece) (o : Goods gs) (b : OptionalNote) where
  abbrev text : List ℕ
  text = head_text l a f ++ text_of gs (bass_text b)

  abbrev last : List Token
  last = closing b (pieces_end gs (head_end a f)) (length text + 1)

  abbrev middle : List Token
  middle = toks_of gs (head_end a f) last

  abbrev lasts : Closing b (pieces_end gs (head_end a f)) (length text + 1)
  lasts = close b (pieces_end gs (head_end a f)) (length text + 1)

  -- the tokens, with each Maj and its 7 joined
  lexed : concat (tokens_of text) ≡ toks 0 (head_text l a f) ++ middle
  lexed =
      cut 0 (head_text l a f) (text_of gs (bass_text b)) (end_of text ∷ []) (head_apart a f l (text_of gs (bass_text b)) (border_of gs o (bass_text b) (bass_border b))) (head a f l).ends
      ∙ ap (λ (q : ℕ). toks 0 (head_text l a f) ++ concat (lex 0 [] q (text_of gs (bass_text b)) ++ (end_of text ∷ []))) (head a f l).goes
      ∙ ap (λ (m : List Token). toks 0 (head_text l a f) ++ m) (cut_pieces gs o (head_end a f) (bass_text b) (bass_border b) (end_of text ∷ []))

  -- the head's Dim is the only partner
  folds : pre_process (tokens_of text) ≡ head_toks l a f ++ middle
  folds =
      ap (λ (ts : List Token). fold7 maj maj7 (fold7 dim dim7 ts)) lexed
      ∙ ap (λ (ts : List Token). fold7 maj maj7 ts)
      (in_two dim dim7 [] (toks 0 (head_text l a f)) middle ∙ calm dim dim7 (head_toks l a f) middle (head a f l).no_dim (no_dims gs o (head_end a f) last lasts.no_dim))
      ∙ unchanged maj maj7 (head_toks l a f ++ middle) (none_in_two maj (head_toks l a f) middle (head a f l).no_maj (no_majs gs o (head_end a f) last lasts.no_maj))

  -- no sign follows the head
  clear : Unsigned middle
  clear = unsigned_pieces gs o (head_end a f) last lasts.unsigned

  -- the root is the head's note
  pub root-read : root_of (pre_process (tokens_of text)) ≡ Some (record { literal = l; modifier = a })
  root-read = ap root_of folds ∙ (head a f l).rooted middle clear

  -- the expressions are those of the head, of the pieces and of the bass
  pub exps-read : parse_of (pre_process (tokens_of text)) ≡ found (form_exps f ++ exps_of gs (head_end a f) (bass_exps b))
  exps-read = ap parse_of folds ∙ (head a f l).parses middle clear ∙ parse_pieces gs o (head_end a f) last (bass_exps b) lasts.parses (form_exps f)

-- The house spelling.

-- the place of the piece that `parts` calls p j
abbrev pub place : List Piece → ℕ → ℕ → ℕ
place [] q j = 0
place (piece c t e i f ∷ gs) q j = cond (eqb i j) (f q) (place gs (moved c t q) j)

-- the places of the parts in the house spelling
abbrev pub places : Note → Set → SusKind → ℕ → ℕ
places root n k = place (pieces n k) (head_end root.modifier (form_of n))

-- `dim7` and `m`, as `parts` has them
form-text : (x y : Bool) (z : List ℕ) → cond x (ascii "dim7") [] ++ (cond (y && not x) (ascii "m") [] ++ z) ≡ form_text (cond x diminished (cond y minor plain)) ++ z
form-text true true z = refl
form-text true false z = refl
form-text false true z = refl
form-text false false z = refl

-- and so are their expressions
form-exps : (x y : Bool) (z : List Exp) → form_exps (cond x diminished (cond y minor plain)) ++ z ≡ given x Dim7 (given (y && not x) Minor z)
form-exps true true z = refl
form-exps true false z = refl
form-exps false true z = refl
form-exps false false z = refl

-- the spelling is head, pieces and bass
pub spelled : (root : Note) (bass : OptionalNote) (n : Set) (k : SusKind) → spell root bass n k ≡ head_text root.literal root.modifier (form_of n) ++ text_of (pieces n k) (bass_text bass)
spelled root bass n k =
    ap (λ (r : List ℕ). note_text root ++ r) (form-text (n diminished_seventh) (n minor_third) (text_of (pieces n k) (bass_text bass)))
    ∙ sym (append_assoc (note_text root) (form_text (form_of n)) (text_of (pieces n k) (bass_text bass)))

-- all that is found in the house spelling
pub all_found : (root : Note) (bass : OptionalNote) (n : Set) (k : SusKind) → parse_of (pre_process (tokens_of (spell root bass n k))) ≡ found (spell_exps (places root n k) bass n k)
all_found root bass n k =
    ap (λ (s : List ℕ). parse_of (pre_process (tokens_of s))) (spelled root bass n k)
    ∙ exps-read root.literal root.modifier (form_of n) (pieces n k) (goods n k) bass
    ∙ ap found (form-exps (n diminished_seventh) (n minor_third) (exps_of (pieces n k) (head_end root.modifier (form_of n)) (bass_exps bass)))

-- no error, the expressions that were named, and the root
pub text_lemma : (root : Note) (bass : OptionalNote) (n : Set) (k : SusKind) → ((parse_of (pre_process (tokens_of (spell root bass n k)))).errs ≡ [])
    × ((parse_of (pre_process (tokens_of (spell root bass n k)))).exps ≡ spell_exps (places root n k) bass n k)
    × (root_of (pre_process (tokens_of (spell root bass n k))) ≡ Some root)
text_lemma root bass n k = (
  ap (λ (s : Parsing ParserError). s.errs) (all_found root bass n k),
  ap (λ (s : Parsing ParserError). s.exps) (all_found root bass n k),
  ap (λ (s : List ℕ). root_of (pre_process (tokens_of s))) (spelled root bass n k)
      ∙ root-read root.literal root.modifier (form_of n) (pieces n k) (goods n k) bass,
)

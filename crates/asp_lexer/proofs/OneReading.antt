-- What is read first is the longest token, and a text is read in one way.
use Rattle.std.proofs.Common.{◌≡◌, ◌≢◌, ◌⊎◌, inl, inr, refl, sym, ap, subst, ◌∙◌, ℕ, ◌≤◌, ◌<◌, Option, Some, None, List, [], ◌∷◌, ◌++◌, length, take, drop, arith, take-append-drop}
use Rattle.std.proofs.lemmas.List.{length-take-le, take_at, drop_at}
use Rattle.asp_syntax.specs.declared.token.Token.{Token}
use Rattle.asp_syntax.specs.declared.token.Token.TheVariants as token
use Rattle.asp_syntax.specs.declared.token.Spanned.{Spanned}
use Rattle.asp_lexer.specs.declared.lexeme.Lexeme.{Lexeme}
use Rattle.asp_lexer.specs.declared.lexeme.Lexeme.TheVariants as lexeme
use Rattle.asp_syntax.specs.WellFormed.{largest}
use Rattle.asp_lexer.specs.Tokens.{Spells, IsLongest, Fits}
use Rattle.asp_lexer.specs.Lexing.{IsSkipped, IsBad, spanned, End, whole, bad, too_large, Reads, at_end, at_bad, at_too_large, past_skipped, past_token}
use Rattle.asp_lexer.specs.Lexemes.{token_length, lexeme_of, number_lexeme, fitting}
use Rattle.asp_lexer.proofs.Scans.{fitting_yes, fitting_no}
use Rattle.asp_lexer.proofs.Alone.{lexeme_for, read_alone}
use Rattle.asp_lexer.proofs.Longest.{reached}
use Rattle.asp_lexer.proofs.Stands.{Takes, StandsFirst, stands_first}
use Rattle.asp_lexer.proofs.SkippedParts.{skip_read}

shown_small : (t : Token) (n : ℕ) → Fits t → lexeme_for t n ≡ lexeme.Token t n
shown_small (token.Number v) n h = ap (number_lexeme n) (fitting_yes v h)
shown_small t n h = refl

number_some : (n : ℕ) (o : Option ℕ) → lexeme.Bad ≡ number_lexeme n o → ⊥
number_some n None e = cc
number_some n (Some v) e = cc

shown_some : (t : Token) (n : ℕ) → lexeme.Bad ≡ lexeme_for t n → ⊥
shown_some (token.Number v) n e = number_some n (fitting v) e
shown_some t n e = cc

-- a token has at least one byte
pub spelled_some : (t : Token) (w : List ℕ) → Spells t w → 1 ≤ length w
spelled_some t [] h = absurd (shown_some t 0 (read_alone t [] h))
spelled_some t (b ∷ w) h = omega arith

module _ (t : Token) (w rest : List ℕ) (h : IsLongest t w rest) where
  -- a token that is read there is this one
  same_token : (u : Token) (n : ℕ) → Spells u (take n (w ++ rest)) → Takes n (w ++ rest) → length w ≤ n → lexeme_for u n ≡ lexeme_for t (length w)
  same_token u n s takes l =
      let size : length (take n (w ++ rest)) ≡ n = length-take-le n (w ++ rest) takes.within in
      let most : length (take n (w ++ rest)) ≤ length w = h.longest u (take n (w ++ rest)) (drop n (w ++ rest)) (sym (take-append-drop n (w ++ rest))) s in
      let same : n ≡ length w = omega (arith, size, most, l) in
      let spelled : Spells u w = subst (Spells u) (take_at w rest n (sym same)) s in
      ap (lexeme_for u) same ∙ sym (read_alone u w spelled) ∙ read_alone t w h.spelled

  by_front : (f : Lexeme) → StandsFirst (w ++ rest) f → length w ≤ token_length f → f ≡ lexeme_for t (length w)
  by_front (lexeme.Skipped n) r l = absurd (omega (arith, l, spelled_some t w h.spelled))
  by_front (lexeme.Token u n) r l = sym (shown_small u n r.1) ∙ same_token u n r.0 r.2 l
  by_front (lexeme.TooLarge n) r l = sym (ap (number_lexeme n) (fitting_no r.0 r.2)) ∙ same_token (token.Number r.0) n r.1 r.3 l
  by_front lexeme.Bad r l = absurd (omega (arith, l, spelled_some t w h.spelled))

  pub longest_read : lexeme_of (w ++ rest) ≡ lexeme_for t (length w)
  longest_read = by_front (lexeme_of (w ++ rest)) (stands_first (w ++ rest)) (reached t w rest h.spelled)

-- a token as long as what is read is the longest
longest_at : (bs : List ℕ) (t : Token) (n : ℕ) → Spells t (take n bs) → n ≤ length bs → token_length (lexeme_of bs) ≡ n → IsLongest t (take n bs) (drop n bs)
longest_at bs t n s within e = record {
  spelled = s;
  longest = λ u v tail q spelled. (let reach = reached u v tail spelled in
      let whole_ : v ++ tail ≡ bs = sym q ∙ take-append-drop n bs in
      let size : length (take n bs) ≡ n = length-take-le n bs within in
      let reach' : length v ≤ token_length (lexeme_of bs) = subst (λ xs. length v ≤ token_length (lexeme_of xs)) whole_ reach in
      omega (arith, reach', size, e));
}

-- a token that is read is the longest, and is not too large
pub token_stands : (bs : List ℕ) (t : Token) (n : ℕ) → lexeme_of bs ≡ lexeme.Token t n → IsLongest t (take n bs) (drop n bs) × Fits t × Takes n bs
token_stands bs t n e =
    let r = subst (StandsFirst bs) e (stands_first bs) in
    (longest_at bs t n r.0 r.2.within (ap token_length e), r.1, r.2)

-- a number that is read as too large is the longest token, and is too large
pub large_stands : (bs : List ℕ) (n : ℕ) → lexeme_of bs ≡ lexeme.TooLarge n → (v : ℕ) × IsLongest (token.Number v) (take n bs) (drop n bs) × (largest < v)
large_stands bs n e =
    let r = subst (StandsFirst bs) e (stands_first bs) in
    (r.0, longest_at bs (token.Number r.0) n r.1 r.3.within (ap token_length e), r.2)

-- what is passed over is a blank or a comment
pub skip_stands : (bs : List ℕ) (n : ℕ) → lexeme_of bs ≡ lexeme.Skipped n → IsSkipped (take n bs) (drop n bs) × Takes n bs
skip_stands bs n e = subst (StandsFirst bs) e (stands_first bs)

-- where nothing is read, nothing stands
pub bad_stands : (bs : List ℕ) → bs ≢ [] → lexeme_of bs ≡ lexeme.Bad → IsBad bs
bad_stands bs some e = record {
  some = some;
  no_token = λ t w rest q s. (let reach = reached t w rest s in
      let none : token_length (lexeme_of (w ++ rest)) ≡ 0 = ap token_length (ap lexeme_of (sym q) ∙ e) in
      let more = spelled_some t w s in
      let clash : ⊥ = absurd (omega (arith, reach, none, more)) in clash);
  no_skip = λ w rest q s. different (length w) (sym (skip_read w rest s) ∙ ap lexeme_of (sym q) ∙ e);
}
  where
    different : (n : ℕ) → lexeme.Skipped n ≡ lexeme.Bad → ⊥
    different n e = cc

bad_by : (bs : List ℕ) → IsBad bs → (f : Lexeme) → StandsFirst bs f → f ≡ lexeme.Bad
bad_by bs h (lexeme.Skipped n) r = absurd (h.no_skip (take n bs) (drop n bs) (sym (take-append-drop n bs)) r.0)
bad_by bs h (lexeme.Token t n) r = absurd (h.no_token t (take n bs) (drop n bs) (sym (take-append-drop n bs)) r.0)
bad_by bs h (lexeme.TooLarge n) r = absurd (h.no_token (token.Number r.0) (take n bs) (drop n bs) (sym (take-append-drop n bs)) r.1)
bad_by bs h lexeme.Bad r = refl

-- where nothing stands, nothing is read
pub bad_read : (bs : List ℕ) → IsBad bs → lexeme_of bs ≡ lexeme.Bad
bad_read bs h = bad_by bs h (lexeme_of bs) (stands_first bs)

-- ---- one way

-- what reading means where this stands first
abbrev View : List ℕ → List ℕ → List Spanned → End → Lexeme → Type 0
View b bs ts e (lexeme.Skipped n) = Reads (b ++ take n bs) (drop n bs) ts e
View b bs ts e (lexeme.Token t n) = (us : List Spanned) × (ts ≡ spanned t b ∷ us) × Reads (b ++ take n bs) (drop n bs) us e
View b bs ts e (lexeme.TooLarge n) = (ts ≡ []) × (e ≡ too_large (length b))
View b bs ts e lexeme.Bad = (ts ≡ []) × (((bs ≡ []) × (e ≡ whole)) ⊎ ((bs ≢ []) × (e ≡ bad (length b))))

module _ (bs w rest : List ℕ) (q : bs ≡ w ++ rest) where
  front_part : take (length w) bs ≡ w
  front_part = ap (take (length w)) q ∙ take_at w rest (length w) refl

  rest_part : drop (length w) bs ≡ rest
  rest_part = ap (drop (length w)) q ∙ drop_at w rest (length w) refl

  forth : (b : List ℕ) (ts : List Spanned) (e : End) → Reads (b ++ w) rest ts e → Reads (b ++ take (length w) bs) (drop (length w) bs) ts e
  forth b ts e r = subst (λ x. Reads (b ++ x) (drop (length w) bs) ts e) (sym front_part) (subst (λ x. Reads (b ++ w) x ts e) (sym rest_part) r)

  back : (b : List ℕ) (ts : List Spanned) (e : End) → Reads (b ++ take (length w) bs) (drop (length w) bs) ts e → Reads (b ++ w) rest ts e
  back b ts e r = subst (λ x. Reads (b ++ w) x ts e) rest_part (subst (λ x. Reads (b ++ x) (drop (length w) bs) ts e) front_part r)

  skip_first : IsSkipped w rest → lexeme_of bs ≡ lexeme.Skipped (length w)
  skip_first s = ap lexeme_of q ∙ skip_read w rest s

  token_first : (t : Token) → IsLongest t w rest → Fits t → lexeme_of bs ≡ lexeme.Token t (length w)
  token_first t h s = ap lexeme_of q ∙ longest_read t w rest h ∙ shown_small t (length w) s

  large_first : (n : ℕ) → IsLongest (token.Number n) w rest → largest < n → lexeme_of bs ≡ lexeme.TooLarge (length w)
  large_first n h s = ap lexeme_of q ∙ longest_read (token.Number n) w rest h ∙ ap (number_lexeme (length w)) (fitting_no n s)

view : {b bs : List ℕ} {ts : List Spanned} {e : End} → Reads b bs ts e → View b bs ts e (lexeme_of bs)
view (at_end b bs e) = subst (View b bs [] whole) (sym (ap lexeme_of e)) (refl, inl (e, refl))
view (at_bad b bs h) = subst (View b bs [] (bad (length b))) (sym (bad_read bs h)) (refl, inr (h.some, refl))
view (at_too_large b bs w rest n q h l) = subst (View b bs [] (too_large (length b))) (sym (large_first bs w rest q n h l)) (refl, refl)
view (past_skipped b bs w rest ts e q s r) = subst (View b bs ts e) (sym (skip_first bs w rest q s)) (forth bs w rest q b ts e r)
view (past_token b bs w rest t ts e q h s r) = subst (View b bs (spanned t b ∷ ts) e) (sym (token_first bs w rest q t h s)) (ts, refl, forth bs w rest q b ts e r)

-- Bytes are read in at most one way.
pub unique : {b bs : List ℕ} {ts us : List Spanned} {e f : End} → Reads b bs ts e → Reads b bs us f → (ts ≡ us) × (e ≡ f)
unique {us = us} {f = f} (at_end b bs h) y =
    let v = subst (View b bs us f) (ap lexeme_of h) (view y) in
    (sym v.0, ended v.1)
  where
    ended : ((bs ≡ []) × (f ≡ whole)) ⊎ ((bs ≢ []) × (f ≡ bad (length b))) → whole ≡ f
    ended (inl x) = sym x.1
    ended (inr x) = absurd (x.0 h)
unique {us = us} {f = f} (at_bad b bs h) y =
    let v = subst (View b bs us f) (bad_read bs h) (view y) in
    (sym v.0, ended v.1)
  where
    ended : ((bs ≡ []) × (f ≡ whole)) ⊎ ((bs ≢ []) × (f ≡ bad (length b))) → bad (length b) ≡ f
    ended (inl x) = absurd (h.some x.0)
    ended (inr x) = sym x.1
unique {us = us} {f = f} (at_too_large b bs w rest n q h l) y =
    let v = subst (View b bs us f) (large_first bs w rest q n h l) (view y) in
    (sym v.0, sym v.1)
unique {us = us} {f = f} (past_skipped b bs w rest ts e q s r) y =
    let v = subst (View b bs us f) (skip_first bs w rest q s) (view y) in
    unique r (back bs w rest q b us f v)
unique {us = us} {f = f} (past_token b bs w rest t ts e q h s r) y =
    let v = subst (View b bs us f) (token_first bs w rest q t h s) (view y) in
    let ih = unique r (back bs w rest q b v.0 f v.2) in
    (ap (λ xs. spanned t b ∷ xs) ih.0 ∙ sym v.1, ih.1)

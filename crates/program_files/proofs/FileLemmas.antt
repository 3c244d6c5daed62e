-- Files that are there have one text, or one of them makes them too long.
use Rattle.std.proofs.Common.{◌≡◌, refl, sym, ap, subst, ◌∙◌, ℕ, ◌+◌, ◌-◌, ◌<◌, ◌≤◌, List, [], ◌∷◌, ◌++◌, length, append_assoc, arith}
use Rattle.std.specs.Prelude.{Option, Some, get_or, drop}
use Rattle.std.proofs.lemmas.Option.{same_Some}
use Rattle.program_files.specs.Files.{joined_text, total, AreFiles, IsJoinedText, MakesTooLong, most_bytes}

-- ---- lists that are the same

-- two lists that are the same begin with the same
same_first : (x y : List ℕ) (xs ys : List (List ℕ)) → x ∷ xs ≡ y ∷ ys → x ≡ y
same_first x y xs ys e = ap (λ zs. get_or zs 0 x) e

-- and go on the same
same_rest : (x y : List ℕ) (xs ys : List (List ℕ)) → x ∷ xs ≡ y ∷ ys → xs ≡ ys
same_rest x y xs ys e = ap (λ zs. drop 1 zs) e

-- ---- one more file

-- the text of files and one more
pub joined_more : (contents : List (List ℕ)) (bytes : List ℕ)
    → joined_text (contents ++ bytes ∷ []) ≡ joined_text contents ++ (bytes ++ 10 ∷ [])
joined_more [] bytes = refl
joined_more (b ∷ contents) bytes = rw (joined_more contents bytes, append_assoc) refl

-- how many bytes files and one more have
pub total_more : (contents : List (List ℕ)) (bytes : List ℕ) → total (contents ++ bytes ∷ []) ≡ total contents + length bytes
total_more [] bytes = omega arith
total_more (b ∷ contents) bytes = omega (arith, total_more contents bytes)

module _ (files : List ℕ → Option (List ℕ)) where
  -- one file more is there
  pub there_more : (names contents : List (List ℕ)) (name bytes : List ℕ) → AreFiles files names contents → files name ≡ Some bytes
      → AreFiles files (names ++ name ∷ []) (contents ++ bytes ∷ [])
  there_more [] [] name bytes there file = (file, tt)
  there_more [] (b ∷ contents) name bytes there file = absurd there
  there_more (n ∷ names) [] name bytes there file = absurd there
  there_more (n ∷ names) (b ∷ contents) name bytes there file = (there.0, there_more names contents name bytes there.1 file)

  -- ---- one text

  -- a file has one content
  one_content : (name other b c : List ℕ) → name ≡ other → files name ≡ Some b → files other ≡ Some c → b ≡ c
  one_content name other b c same one two = same_Some b c (sym one ∙ ap files same ∙ two)

  -- files have one list of contents
  pub one_list : (names cs ds : List (List ℕ)) → AreFiles files names cs → AreFiles files names ds → cs ≡ ds
  one_list [] [] [] one two = refl
  one_list [] [] (d ∷ ds) one two = absurd two
  one_list [] (c ∷ cs) ds one two = absurd one
  one_list (n ∷ names) [] ds one two = absurd one
  one_list (n ∷ names) (c ∷ cs) [] one two = absurd two
  one_list (n ∷ names) (c ∷ cs) (d ∷ ds) one two =
      let same : c ≡ d = one_content n n c d refl one.0 two.0 in
      let rest : cs ≡ ds = one_list names cs ds one.1 two.1 in
      ap (λ x. x ∷ cs) same ∙ ap (λ xs. d ∷ xs) rest

  -- files have one text
  pub one_text : (names : List (List ℕ)) (text other : List ℕ)
      → IsJoinedText files names text → IsJoinedText files names other → text ≡ other
  one_text names text other one two =
      one.text_is ∙ ap joined_text (one_list names one.contents two.contents one.there two.there) ∙ sym two.text_is

  -- ---- at most one file makes them too long

  -- the files up to one of them have no more bytes than all
  part_of_all : (before after contents all : List (List ℕ)) (name bytes : List ℕ) → AreFiles files before contents → files name ≡ Some bytes
      → AreFiles files (before ++ name ∷ after) all → total contents + length bytes ≤ total all
  part_of_all [] after [] [] name bytes there file whole = absurd whole
  part_of_all [] after [] (c ∷ all) name bytes there file whole =
      let same : length bytes ≡ length c = ap length (one_content name name bytes c refl file whole.0) in
      omega (arith, same)
  part_of_all [] after (b ∷ contents) all name bytes there file whole = absurd there
  part_of_all (n ∷ before) after [] all name bytes there file whole = absurd there
  part_of_all (n ∷ before) after (b ∷ contents) [] name bytes there file whole = absurd whole
  part_of_all (n ∷ before) after (b ∷ contents) (c ∷ all) name bytes there file whole =
      let same : length b ≡ length c = ap length (one_content n n b c refl there.0 whole.0) in
      omega (arith, same, part_of_all before after contents all name bytes there.1 file whole.1)

  -- files that are too long have no text
  pub no_text : (names : List (List ℕ)) (name text : List ℕ) → MakesTooLong files names name → IsJoinedText files names text → ⊥
  no_text names name text long is =
      let r = long.reached in
      let whole = subst (λ ns. AreFiles files ns is.contents) r.names_are is.there in
      omega (arith, is.within, long.above, part_of_all r.before r.after r.contents is.contents name long.bytes r.there long.file whole)

  -- of two files each of which makes them too long, neither comes first
  same_name : (most : ℕ) (before after contents others behind there : List (List ℕ)) (name bytes other content : List ℕ)
      → before ++ name ∷ after ≡ others ++ other ∷ behind → AreFiles files before contents → AreFiles files others there
      → files name ≡ Some bytes → files other ≡ Some content → total contents ≤ most → total there ≤ most
      → most < total contents + length bytes → most < total there + length content → name ≡ other
  same_name most [] after contents [] behind there name bytes other content e p q f g a b c d = same_first name other after behind e
  same_name most [] after [] (o ∷ others) behind [] name bytes other content e p q f g a b c d = absurd q
  same_name most [] after [] (o ∷ others) behind (t ∷ there) name bytes other content e p q f g a b c d =
      let same : length bytes ≡ length t = ap length (one_content name o bytes t (same_first name o after _ e) f q.0) in
      absurd (omega (arith, same, b, c))
  same_name most [] after (x ∷ contents) (o ∷ others) behind there name bytes other content e p q f g a b c d = absurd p
  same_name most (n ∷ before) after [] others behind there name bytes other content e p q f g a b c d = absurd p
  same_name most (n ∷ before) after (x ∷ contents) [] behind [] name bytes other content e p q f g a b c d =
      let same : length content ≡ length x = ap length (one_content other n content x (sym (same_first n other _ behind e)) g p.0) in
      absurd (omega (arith, same, a, d))
  same_name most (n ∷ before) after (x ∷ contents) [] behind (t ∷ there) name bytes other content e p q f g a b c d = absurd q
  same_name most (n ∷ before) after (x ∷ contents) (o ∷ others) behind [] name bytes other content e p q f g a b c d = absurd q
  same_name most (n ∷ before) after (x ∷ contents) (o ∷ others) behind (t ∷ there) name bytes other content e p q f g a b c d =
      let same : length x ≡ length t = ap length (one_content n o x t (same_first n o _ _ e) p.0 q.0) in
      same_name (most - length x) before after contents others behind there name bytes other content (same_rest n o _ _ e) p.1 q.1 f g
      (omega (arith, a)) (omega (arith, same, b)) (omega (arith, a, c)) (omega (arith, same, a, b, d))

  -- at most one file makes them too long
  pub one_name : (names : List (List ℕ)) (name other : List ℕ)
      → MakesTooLong files names name → MakesTooLong files names other → name ≡ other
  one_name names name other one two =
      let r = one.reached in
      let s = two.reached in
      same_name most_bytes r.before r.after r.contents s.before s.after s.contents name one.bytes other two.bytes
      (sym r.names_are ∙ s.names_are) r.there s.there one.file two.file r.within s.within one.above two.above

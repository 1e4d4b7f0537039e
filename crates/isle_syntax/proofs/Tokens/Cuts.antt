-- Where a text may be cut: beside an ASCII byte.
use Rattle.std.proofs.Common.{◌≡◌, ℕ, suc, ◌+◌, ◌-◌, ◌<◌, List, [], ◌∷◌, ◌++◌, length, drop, get_or, Bool, true, false, cond, refl, ap, sym, subst}
use Rattle.std.proofs.Common.{◌∙◌, length-append, append_assoc, add-one, arith}
use Rattle.std.specs.Str.{IsUtf8}
use Rattle.std.proofs.lemmas.Str.{IsUtf8-drop, IsUtf8-nil, IsCharBoundary-after_ascii, IsCharBoundary-before_ascii}
use Rattle.isle_syntax.specs.Tokens.Ends.{IsEnd}
use Rattle.isle_syntax.specs.Tokens.Gaps.{after_first, after_run, run_of}
use Rattle.isle_syntax.proofs.Tokens.Runs.{run_whole}

get_behind : (front : List ℕ) (b : ℕ) (rest : List ℕ) → get_or (front ++ b ∷ rest) (length front) 0 ≡ b
get_behind [] b rest = refl
get_behind (f ∷ front) b rest = get_behind front b rest

drop_behind : (front rest : List ℕ) → drop (length front) (front ++ rest) ≡ rest
drop_behind [] rest = refl
drop_behind (f ∷ front) rest = drop_behind front rest

drop_past : (front : List ℕ) (b : ℕ) (rest : List ℕ) → drop (suc (length front)) (front ++ b ∷ rest) ≡ rest
drop_past [] b rest = refl
drop_past (f ∷ front) b rest = drop_past front b rest

-- a text goes on with a text at an ASCII byte
pub utf8_at_ascii : (front : List ℕ) (b : ℕ) (rest : List ℕ) → IsUtf8 (front ++ b ∷ rest) → b < 128 → IsUtf8 (b ∷ rest)
utf8_at_ascii front b rest u h =
    let text = front ++ b ∷ rest in
    let here : get_or text (length front) 0 < 128 = rw get_behind h in
    let within : length front < length text = omega (arith, length-append front (b ∷ rest)) in
    subst IsUtf8 (drop_behind front (b ∷ rest)) (IsUtf8-drop text (length front) u (IsCharBoundary-before_ascii text (length front) within here))

-- and behind it
pub utf8_behind_ascii : (front : List ℕ) (b : ℕ) (rest : List ℕ) → IsUtf8 (front ++ b ∷ rest) → b < 128 → IsUtf8 rest
utf8_behind_ascii front b rest u h =
    let text = front ++ b ∷ rest in
    let here : get_or text (length front) 0 < 128 = rw get_behind h in
    let within : length front < length text = omega (arith, length-append front (b ∷ rest)) in
    let same : drop (length front + 1) text ≡ rest = rw add-one (drop_past front b rest) in
    subst IsUtf8 same (IsUtf8-drop text (length front + 1) u (IsCharBoundary-after_ascii text (length front) u within here))

-- what follows an ASCII byte of a text
pub record EndsAscii (text rest : List ℕ) : Type 0 where
  pub front : List ℕ
  pub last : ℕ
  pub ascii : last < 128
  pub whole : text ≡ front ++ last ∷ rest

pub ends_utf8 : {text rest : List ℕ} → EndsAscii text rest → IsUtf8 text → IsUtf8 rest
ends_utf8 {text} {rest} e u = utf8_behind_ascii e.front e.last rest (subst IsUtf8 e.whole u) e.ascii

pub ends_cons : (b : ℕ) {text rest : List ℕ} → EndsAscii text rest → EndsAscii (b ∷ text) rest
ends_cons b e = record { front = b ∷ e.front; last = e.last; ascii = e.ascii; whole = ap (λ k. b ∷ k) e.whole }

pub ends_behind : {text middle rest : List ℕ} → EndsAscii text middle → EndsAscii middle rest → EndsAscii text rest
ends_behind {text} {middle} {rest} e f = record {
  front = e.front ++ e.last ∷ f.front;
  last = f.last;
  ascii = f.ascii;
  whole = e.whole ∙ ap (λ k. e.front ++ e.last ∷ k) f.whole ∙ sym (append_assoc e.front (e.last ∷ f.front) (f.last ∷ rest));
}

pub ends_first : (b : ℕ) (rest : List ℕ) → b < 128 → EndsAscii (b ∷ rest) rest
ends_first b rest h = record { front = []; last = b; ascii = h; whole = refl }

pub after_first-utf8 : (text : List ℕ) → IsUtf8 text → get_or text 0 0 < 128 → IsUtf8 (after_first text)
after_first-utf8 [] u h = u
after_first-utf8 (b ∷ bs) u h = ends_utf8 (ends_first b bs h) u

-- ---- runs

-- a run ends where its kind ends
stop_case : (p : ℕ → Bool) (front : List ℕ) (b : ℕ) (bs : List ℕ) (t : Bool) → p b ≡ t → ((c : ℕ) → p c ≡ false → c < 128)
    → IsUtf8 (front ++ cond t (after_run p bs) (b ∷ bs)) → (IsUtf8 (front ++ after_run p bs) → IsUtf8 (after_run p bs))
    → IsUtf8 (cond t (after_run p bs) (b ∷ bs))
stop_case p front b bs true e ascii u ih = ih u
stop_case p front b bs false e ascii u ih = utf8_at_ascii front b bs u (ascii b e)

at_stop : (p : ℕ → Bool) (front bs : List ℕ) → ((c : ℕ) → p c ≡ false → c < 128) → IsUtf8 (front ++ after_run p bs) → IsUtf8 (after_run p bs)
unfolding after_run
at_stop p front [] ascii u = IsUtf8-nil
at_stop p front (b ∷ bs) ascii u = stop_case p front b bs (p b) refl ascii u (at_stop p front bs ascii)

-- what follows a run that only an ASCII byte ends
pub stopped-utf8 : (p : ℕ → Bool) (text : List ℕ) → ((c : ℕ) → p c ≡ false → c < 128) → IsUtf8 text → IsUtf8 (after_run p text)
stopped-utf8 p text ascii u = at_stop p (run_of p text) text ascii (subst IsUtf8 (run_whole p text) u)

run_case : (p : ℕ → Bool) (b : ℕ) (bs : List ℕ) (t : Bool) → p b ≡ t → ((c : ℕ) → p c ≡ true → c < 128)
    → IsUtf8 (b ∷ bs) → (IsUtf8 bs → IsUtf8 (after_run p bs)) → IsUtf8 (cond t (after_run p bs) (b ∷ bs))
run_case p b bs true e ascii u ih = ih (ends_utf8 (ends_first b bs (ascii b e)) u)
run_case p b bs false e ascii u ih = u

-- what follows a run of ASCII bytes
pub run-utf8 : (p : ℕ → Bool) (text : List ℕ) → ((c : ℕ) → p c ≡ true → c < 128) → IsUtf8 text → IsUtf8 (after_run p text)
unfolding after_run
run-utf8 p [] ascii u = u
run-utf8 p (b ∷ bs) ascii u = run_case p b bs (p b) refl ascii u (run-utf8 p bs ascii)

-- ---- ends of a text

pub record Ending (text rest : List ℕ) : Type 0 where
  pub front : List ℕ
  pub whole : text ≡ front ++ rest

pub ending_self : (text : List ℕ) → Ending text text
ending_self text = record { front = []; whole = refl }

pub ending_first : {text : List ℕ} (rest : List ℕ) → Ending text rest → Ending text (after_first rest)
ending_first [] e = e
ending_first (b ∷ bs) e = record { front = e.front ++ b ∷ []; whole = e.whole ∙ sym (append_assoc e.front (b ∷ []) bs) }

pub ending_run : (p : ℕ → Bool) {text : List ℕ} (rest : List ℕ) → Ending text rest → Ending text (after_run p rest)
ending_run p rest e = record {
  front = e.front ++ run_of p rest;
  whole = e.whole ∙ ap (λ k. e.front ++ k) (run_whole p rest) ∙ sym (append_assoc e.front (run_of p rest) (after_run p rest));
}

pub ending_ends : {text middle rest : List ℕ} → Ending text middle → EndsAscii middle rest → Ending text rest
ending_ends {text} {middle} {rest} e f = record {
  front = e.front ++ (f.front ++ f.last ∷ []);
  whole = e.whole ∙ ap (λ k. e.front ++ k) (f.whole ∙ sym (append_assoc f.front (f.last ∷ []) rest))
      ∙ sym (append_assoc e.front (f.front ++ f.last ∷ []) rest);
}

pub ending_is_end : {text rest : List ℕ} → Ending text rest → IsEnd text rest
ending_is_end {text} {rest} e =
    let k : length text - length rest ≡ length e.front = omega (arith, ap length e.whole, length-append e.front rest) in
    record {
      within = omega (arith, ap length e.whole, length-append e.front rest);
      same = sym ((λ i. drop (k i) (e.whole i)) ∙ drop_behind e.front rest);
    }

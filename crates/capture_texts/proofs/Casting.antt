-- Files are taken one after the other.
use Rattle.std.proofs.Common.{◌≡◌, ◌+◌, ◌≤◌, ℕ, nat_lt, nat_le, Bool, true, false, ◌&&◌, List, [], ◌∷◌, ◌++◌, Some}
use Rattle.std.proofs.Common.{refl, sym, ap, ◌∙◌, subst, arith, length, slice_get}
use Rattle.std.proofs.lemmas.Bool.{and_parts, ltb-true, leb-true}
use Rattle.std.proofs.lemmas.List.{append_assoc, length_push}
use Rattle.std.specs.List.{AllZip}
use Rattle.capture_texts.specs.declared.finding.FileFinding.{FileFinding}
use Rattle.capture_texts.specs.records.Casts.{is_wanted, has_unsafe, has_room, clients_with, clients_after, recorded}
use Rattle.capture_texts.specs.records.Casts.{recorded_after}
use Rattle.capture_texts.specs.records.Casts.{IsAt, IsCastOf, Takes, TakesIf}
use Rattle.capture_texts.specs.declared.records.cast.Cast.{Cast}
use Rattle.capture_texts.specs.declared.records.cast.TheConstants.{MOST}

zip_push : {A B : Type 0} (R : A → B → Type 0) (xs : List A) (ys : List B) (x : A) (y : B) → AllZip R xs ys → R x y
    → AllZip R (xs ++ x ∷ []) (ys ++ y ∷ [])
zip_push R [] [] x y all one = (one, tt)
zip_push R [] (b ∷ ys) x y all one = absurd all
zip_push R (a ∷ xs) [] x y all one = absurd all
zip_push R (a ∷ xs) (b ∷ ys) x y all one = (all.0, zip_push R xs ys x y all.1 one)

clients-push : (known : List ℕ) (files : List FileFinding) (file : FileFinding)
    → clients_after known (files ++ file ∷ []) ≡ clients_with (clients_after known files) file
clients-push known [] file = refl
clients-push known (one ∷ files) file = clients-push (clients_with known one) files file

-- After a turn the cast is that of the files that it has, and these begin the record's.
pub record Turned (files later : List FileFinding) (new : Cast) : Type 0 where
  pub chosen : List FileFinding
  pub is : IsCastOf files chosen new
  pub begins : recorded files ≡ chosen ++ recorded_after (has_unsafe files) new.clients.items (length new.findings.items) later

skipped : (are_unsafe wanted : Bool) (known : List ℕ) (count : ℕ) (file : FileFinding) (later : List FileFinding)
    → (is_wanted are_unsafe file && has_room known count file) ≡ false
    → recorded_after are_unsafe known count (file ∷ later) ≡ recorded_after are_unsafe known count later
skipped are_unsafe wanted known count file later none = rw none refl

recorded-one : (are_unsafe : Bool) (known : List ℕ) (count : ℕ) (file : FileFinding) (later : List FileFinding)
    → (is_wanted are_unsafe file && has_room known count file) ≡ true
    → recorded_after are_unsafe known count (file ∷ later)
    ≡ file ∷ recorded_after are_unsafe (clients_with known file) (count + 1) later
recorded-one are_unsafe known count file later all = rw all refl

both : (a b : Bool) → a ≡ true → b ≡ true → a && b ≡ true
both a b one two = rw one two

not-first : (a b : Bool) → a ≡ false → a && b ≡ false
not-first a b none = rw none refl

not-second : (a b : Bool) → a ≡ true → b ≡ false → a && b ≡ false
not-second a b one none = rw one none

pub turned-away : (files later chosen : List FileFinding) (file : FileFinding) (cast : Cast) → IsCastOf files chosen cast
    → recorded files ≡ chosen
    ++ recorded_after (has_unsafe files) cast.clients.items (length cast.findings.items) (file ∷ later)
    → is_wanted (has_unsafe files) file ≡ false → Turned files later cast
turned-away files later chosen file cast is begins unwanted = record {
  chosen = chosen;
  is = is;
  begins = begins ∙ ap (λ rest. chosen ++ rest) (skipped (has_unsafe files) false cast.clients.items
      (length cast.findings.items) file later (not-first (is_wanted (has_unsafe files) file)
      (has_room cast.clients.items (length cast.findings.items) file) unwanted));
}

taken : (files later chosen : List FileFinding) (file : FileFinding) (place : ℕ) (old new : Cast) → IsCastOf files chosen old
    → slice_get files place ≡ Some file → recorded files ≡ chosen
    ++ recorded_after (has_unsafe files) old.clients.items (length old.findings.items) (file ∷ later)
    → is_wanted (has_unsafe files) file ≡ true → (room : Bool)
    → has_room old.clients.items (length old.findings.items) file ≡ room → TakesIf room place file old new
    → Turned files later new
taken files later chosen file place old new is at begins wanted false none takes = record {
  chosen = chosen;
  is = record {
    places = subst (λ (ps : List ℕ). AllZip (IsAt files) ps chosen) (sym takes.1) is.places;
    clients = takes.0 ∙ is.clients;
    few-files = subst (λ (ps : List ℕ). length ps ≤ MOST) (sym takes.1) is.few-files;
    few-clients = subst (λ (cs : List ℕ). length cs ≤ MOST) (sym takes.0) is.few-clients;
  };
  begins = rw (takes.0, takes.1) (begins ∙ ap (λ rest. chosen ++ rest) (skipped (has_unsafe files) true old.clients.items
      (length old.findings.items) file later (not-second (is_wanted (has_unsafe files) file)
      (has_room old.clients.items (length old.findings.items) file) wanted none)));
}
taken files later chosen file place old new is at begins wanted true room takes =
    let fits = and_parts (nat_lt (length old.findings.items) MOST)
    (nat_le (length (clients_with old.clients.items file)) MOST) room
    in let count = ap length takes.1 ∙ length_push old.findings.items place
    in record {
      chosen = chosen ++ file ∷ [];
      is = record {
        places = subst (λ (ps : List ℕ). AllZip (IsAt files) ps (chosen ++ file ∷ [])) (sym takes.1)
            (zip_push (IsAt files) old.findings.items chosen place file is.places at);
        clients = takes.0 ∙ (ap (λ known. clients_with known file) is.clients ∙ sym (clients-push [] chosen file));
        few-files = let less = ltb-true (length old.findings.items) MOST fits.0 in omega (arith, count, less);
        few-clients = subst (λ (cs : List ℕ). length cs ≤ MOST) (sym takes.0)
            (leb-true (length (clients_with old.clients.items file)) MOST fits.1);
      };
      begins = rw (takes.0, count) (begins ∙ (ap (λ rest. chosen ++ rest) (recorded-one (has_unsafe files) old.clients.items
          (length old.findings.items) file later (both (is_wanted (has_unsafe files) file)
          (has_room old.clients.items (length old.findings.items) file) wanted room))
          ∙ sym (append_assoc chosen (file ∷ []) (recorded_after (has_unsafe files) (clients_with old.clients.items file)
          (length old.findings.items + 1) later))));
    }

pub turned : (files later chosen : List FileFinding) (file : FileFinding) (place : ℕ) (old new : Cast) → IsCastOf files chosen old
    → slice_get files place ≡ Some file → recorded files ≡ chosen
    ++ recorded_after (has_unsafe files) old.clients.items (length old.findings.items) (file ∷ later)
    → is_wanted (has_unsafe files) file ≡ true → Takes place file old new → Turned files later new
turned files later chosen file place old new is at begins wanted takes =
    taken files later chosen file place old new is at begins wanted
    (has_room old.clients.items (length old.findings.items) file) refl takes

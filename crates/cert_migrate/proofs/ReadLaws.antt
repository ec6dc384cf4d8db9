-- What is read in the form of version 1 is the only certificate of that version with its text.
use Rattle.std.proofs.Common.{◌≡◌, ℕ, ◌≤◌, List, length, map, take, All, ℤ, arith, refl, sym, ap, ◌∙◌, subst}
use Rattle.std.proofs.lemmas.List.{length-take-le}
use Rattle.quadratic_form.specs.declared.sizes.TheConstants.{MOST_INTEGERS}
use Rattle.obs_rows.specs.declared.arcs.Arc.{Arc}
use Rattle.obs_rows.specs.declared.rows.Row.{Row}
use Rattle.obs_rows.specs.declared.pair_rows.PairRows.{PairRows}
use Rattle.cert_data.specs.declared.tails.Tail.{Tail}
use Rattle.cert_data.specs.declared.tails.Tail.TheVariants as now
use Rattle.cert_data.specs.declared.certs.Cert.{Cert}
use Rattle.cert_lines.specs.Lengths.{IsWholeRow, IsWholePair}
use Rattle.cert_lines.specs.declared.version.Version.TheVariants.{One}
use Rattle.cert_text.specs.Spelling.{spelling_as}
use Rattle.cert_text.specs.Lengths.{IsWholeTail, IsWhole}
use Rattle.cert_text.specs.Editions.{IsOfVersion, IsCertificateAs}
use Rattle.cert_text.specs.Beginnings.{NoneBegins}
use Rattle.cert_text.proofs.SameSpelling.{spelling_same}
use Rattle.cert_migrate.specs.declared.old_rows.OldRow.{OldRow}
use Rattle.cert_migrate.specs.declared.old_pairs.OldPair.{OldPair}
use Rattle.cert_migrate.specs.declared.old_tails.OldTail.{OldTail}
use Rattle.cert_migrate.specs.declared.old_certs.OldCert.{OldCert}
use Rattle.cert_migrate.specs.OldSpelling.{old_spelling, IsWholeOldArc, IsWholeOldRow, IsWholeOldPair, IsWholeOldTail, IsWholeOld, IsOldCertificate}
use Rattle.cert_migrate.specs.Carriers.{old_arc, IsRowOf, IsPairOf, IsEndOf, IsCarrierOf}
use Rattle.cert_migrate.proofs.ListZips.{zip_all, all_map}
use Rattle.cert_migrate.proofs.Carried.{carried_cert, cert_carried, cert_whole, cert_of_one}
use Rattle.cert_migrate.proofs.OldSpelled.{spelled_same}
use Rattle.cert_migrate.proofs.OldSame.{one_old}
use Rattle.cert_migrate.proofs.MovedSessions.{few_entries}

-- ---- the text
pub spelled_old : (c : Cert) (o : OldCert) → IsOfVersion One c → IsCarrierOf c o → old_spelling o ≡ spelling_as One c
spelled_old c o v h = spelled_same c o h (v.bands refl) (few_entries c (v.bands refl))

carried_text : (d : OldCert) → IsWholeOld d → old_spelling d ≡ spelling_as One (carried_cert d)
carried_text d w = spelled_old (carried_cert d) d (cert_of_one d) (cert_carried d w)

-- no other has it
pub read_only : (text : List ℕ) (c : Cert) (o : OldCert) → IsCarrierOf c o → ((d : Cert) → IsWhole d → IsOfVersion One d → text ≡ spelling_as One d → d ≡ c)
    → (d : OldCert) → IsWholeOld d → text ≡ old_spelling d → d ≡ o
read_only text c o h only d w e =
    let same : carried_cert d ≡ c = only (carried_cert d) (cert_whole d w) (cert_of_one d) (e ∙ carried_text d w) in
    one_old c d o (subst (λ (x : Cert). IsCarrierOf x d) same (cert_carried d w)) h

-- two certificates with one spelling are the same
pub old_spelling_same : (c d : OldCert) → IsWholeOld c → IsWholeOld d → old_spelling c ≡ old_spelling d → c ≡ d
old_spelling_same c d w v e =
    let present : spelling_as One (carried_cert c) ≡ spelling_as One (carried_cert d) = sym (carried_text c w) ∙ e ∙ carried_text d v in
    let same : carried_cert c ≡ carried_cert d = spelling_same One (carried_cert c) (carried_cert d) (cert_whole c w) (cert_whole d v) (cert_of_one c) (cert_of_one d) present in
    one_old (carried_cert d) c d (subst (λ (x : Cert). IsCarrierOf x c) same (cert_carried c w)) (cert_carried d v)

-- its text is one in the present types
present_text : (text : List ℕ) → IsOldCertificate text → IsCertificateAs One text
present_text text is = record {
  cert = carried_cert is.cert;
  whole = cert_whole is.cert is.whole;
  of_version = cert_of_one is.cert;
  spelled = is.spelled ∙ carried_text is.cert is.whole;
}

-- where none has it in the present types, none has it
pub none_read : (text : List ℕ) → (IsCertificateAs One text → ⊥) → IsOldCertificate text → ⊥
none_read text none is = none (present_text text is)

-- and where none begins with some lines, none does
pub none_begins : (text : List ℕ) (number : ℕ) → NoneBegins (IsCertificateAs One) text number → NoneBegins IsOldCertificate text number
none_begins text number none = λ other is same. none other (present_text other is) same

-- ---- its arrays have their lengths
row_whole : (r : Row) (o : OldRow) → IsRowOf r o → IsWholeRow r → IsWholeOldRow o
row_whole r o h w = record { y = ap length h.y; u = ap length h.u ∙ w.u; ru = ap length h.ru ∙ w.ru }

pair_whole : (p : PairRows) (o : OldPair) → IsPairOf p o → IsWholePair p → IsWholeOldPair o
pair_whole p o h w = zip_all IsRowOf IsWholeRow IsWholeOldRow row_whole p.rows o.rows h.rows w

arcs_whole : (arcs : List Arc) → All IsWholeOldArc (map old_arc arcs)
arcs_whole arcs = all_map old_arc (λ a. Unit {0}) IsWholeOldArc (λ a u. refl) arcs (λ k d h. tt)

front_whole : (xs ys : List ℤ) → ys ≡ take 40 xs → length xs ≡ MOST_INTEGERS → length ys ≡ 40
front_whole xs ys e w = ap length e ∙ length-take-le 40 xs (subst (λ (n : ℕ). 40 ≤ n) (sym w) (omega arith))

tail_whole : (t : Tail) (o : OldTail) → IsEndOf t o → IsWholeTail t → IsWholeOldTail o
tail_whole (now.Fixed h moved best top) o e w =
    subst IsWholeOldTail (sym e.1.1) (record { move = w.move; first = front_whole best.first e.0.first e.1.0.first w.first; second = front_whole best.second e.0.second e.1.0.second w.second })
tail_whole (now.Unseparated h moved best top) o e w =
    subst IsWholeOldTail (sym e.1.1) (record { move = w.move; first = front_whole best.first e.0.first e.1.0.first w.first; second = front_whole best.second e.0.second e.1.0.second w.second })
tail_whole (now.Weak column pivot) o e w = subst IsWholeOldTail (sym e) tt
tail_whole (now.Overwidth place) o e w = subst IsWholeOldTail (sym e) tt
tail_whole (now.Unsettled entry) o e w = subst IsWholeOldTail (sym e) tt
tail_whole (now.Spent budget) o e w = subst IsWholeOldTail (sym e) tt

pub read_whole : (c : Cert) (o : OldCert) → IsCarrierOf c o → IsWhole c → IsWholeOld o
read_whole c o h w = record {
  base = ap length h.session.base ∙ w.session.base;
  point = ap length h.session.point ∙ w.session.point;
  arcs = subst (All IsWholeOldArc) (sym h.session.arcs) (arcs_whole c.session.arcs);
  pairs = zip_all IsPairOf IsWholePair IsWholeOldPair pair_whole c.session.pairs o.session.pairs h.session.pairs w.session.pairs;
  tail = tail_whole c.tail o.tail h.tail w.tail;
}

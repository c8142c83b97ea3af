-- What another program found left where the twenty walks end, from the left.
use Rattle.std.proofs.Common.{◌≡◌, [], ◌∷◌, refl}
use Rattle.fm_core.proofs.Walks.{setting0, end0, setting1, end1, setting2, end2, setting3, end3, setting4, end4, setting5, end5, setting6, end6}
use Rattle.fm_core.proofs.MoreWalks.{setting7, end7, setting8, end8, setting9, end9, setting10, end10, setting11, end11, setting12, end12, setting13, end13}
use Rattle.fm_core.proofs.LateWalks.{setting14, end14, setting15, end15, setting16, end16, setting17, end17, setting18, end18, setting19, end19}
use Rattle.fm_progress.specs.Left.{left}

left0 : left setting0 end0 ≡ 18 ∷ 0 ∷ 0 ∷ 3 ∷ 2 ∷ 0 ∷ 1 ∷ 0 ∷ []
left0 = refl

left1 : left setting1 end1 ≡ 38 ∷ 0 ∷ 1 ∷ 1 ∷ 4 ∷ 1 ∷ 0 ∷ 0 ∷ []
left1 = refl

left2 : left setting2 end2 ≡ 7 ∷ 0 ∷ 0 ∷ 0 ∷ 1 ∷ 0 ∷ 1 ∷ 1 ∷ []
left2 = refl

left3 : left setting3 end3 ≡ 10 ∷ 0 ∷ 1 ∷ 1 ∷ 1 ∷ 1 ∷ 0 ∷ 0 ∷ []
left3 = refl

left4 : left setting4 end4 ≡ 13 ∷ 1 ∷ 0 ∷ 1 ∷ 1 ∷ 1 ∷ 0 ∷ 0 ∷ []
left4 = refl

left5 : left setting5 end5 ≡ 9 ∷ 1 ∷ 0 ∷ 1 ∷ 0 ∷ 1 ∷ 0 ∷ 0 ∷ []
left5 = refl

left6 : left setting6 end6 ≡ 14 ∷ 1 ∷ 0 ∷ 0 ∷ 1 ∷ 1 ∷ 2 ∷ 1 ∷ []
left6 = refl

left7 : left setting7 end7 ≡ 4 ∷ 1 ∷ 0 ∷ 2 ∷ 0 ∷ 1 ∷ 0 ∷ 0 ∷ []
left7 = refl

left8 : left setting8 end8 ≡ 21 ∷ 1 ∷ 0 ∷ 0 ∷ 2 ∷ 1 ∷ 1 ∷ 1 ∷ []
left8 = refl

left9 : left setting9 end9 ≡ 2 ∷ 1 ∷ 0 ∷ 0 ∷ 1 ∷ 1 ∷ 1 ∷ 1 ∷ []
left9 = refl

left10 : left setting10 end10 ≡ 2 ∷ 1 ∷ 0 ∷ 1 ∷ 1 ∷ 1 ∷ 0 ∷ 0 ∷ []
left10 = refl

left11 : left setting11 end11 ≡ 10 ∷ 1 ∷ 0 ∷ 0 ∷ 1 ∷ 1 ∷ 1 ∷ 1 ∷ []
left11 = refl

left12 : left setting12 end12 ≡ 1 ∷ 0 ∷ 1 ∷ 1 ∷ 1 ∷ 1 ∷ 0 ∷ 0 ∷ []
left12 = refl

left13 : left setting13 end13 ≡ 9 ∷ 0 ∷ 1 ∷ 1 ∷ 2 ∷ 1 ∷ 0 ∷ 0 ∷ []
left13 = refl

left14 : left setting14 end14 ≡ 27 ∷ 1 ∷ 0 ∷ 1 ∷ 0 ∷ 1 ∷ 0 ∷ 0 ∷ []
left14 = refl

left15 : left setting15 end15 ≡ 18 ∷ 1 ∷ 0 ∷ 0 ∷ 0 ∷ 1 ∷ 0 ∷ 0 ∷ []
left15 = refl

left16 : left setting16 end16 ≡ 2 ∷ 1 ∷ 0 ∷ 0 ∷ 2 ∷ 1 ∷ 1 ∷ 1 ∷ []
left16 = refl

left17 : left setting17 end17 ≡ 30 ∷ 1 ∷ 0 ∷ 0 ∷ 3 ∷ 1 ∷ 1 ∷ 1 ∷ []
left17 = refl

left18 : left setting18 end18 ≡ 2 ∷ 0 ∷ 1 ∷ 1 ∷ 0 ∷ 1 ∷ 0 ∷ 0 ∷ []
left18 = refl

left19 : left setting19 end19 ≡ 12 ∷ 1 ∷ 0 ∷ 0 ∷ 1 ∷ 1 ∷ 1 ∷ 0 ∷ []
left19 = refl

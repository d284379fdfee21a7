mod BodyLaws

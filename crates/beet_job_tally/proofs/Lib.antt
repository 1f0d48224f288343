mod Tallying

mod Pollers
